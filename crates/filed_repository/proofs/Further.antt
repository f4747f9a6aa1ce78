-- A further revision that was read comes next where the files are those of a history, and nowhere else.
use Rattle.std.proofs.Common.{◌≡◌, ◌<◌, List, [], ◌∷◌, ◌++◌, length, Ok, ℕ, sym, ap, subst, ◌∙◌, arith, length-append, ◌+◌, refl}
use Rattle.std.specs.{FinMap.entries, Prelude.{Result, Err, IfOk}}
use Rattle.repo_api.specs.{States.ChangeMap, declared.limits.TheConstants.REVISION_LIMIT}
use Rattle.noderevs.specs.{Heights.AreHigh, Held.{blocks_of, count, node_at}, Nodes.with_block, declared.node_rev.Block.Block}
use Rattle.block_rules.specs.Rules.{IsNextRevision, past_of}
use Rattle.shared_revisions.specs.declared.held.Held.{Held}
use Rattle.shared_revisions.proofs.Seen.{held_many}
use Rattle.world.specs.Adding.{MayComeNext}
use Rattle.fsfs.specs.{Judging.judged_revision, Pieces.revision_of, declared.piece.FilePiece.FilePiece}
use Rattle.fsfs_text.specs.declared.fault.FileFault.{FileFault}
use Rattle.fsfs_nodes.specs.declared.change.FileChange.{FileChange}
use Rattle.filed_trees.specs.{Pieces.RevisionBytes, Readable.{IsReadableFile, Judges}, Tables.AreTabled, declared.table.Table.Table}
use Rattle.filed_repository.specs.{Histories.{ComesNext, HasHistory, IsHistory, with_next, first}, Reading.{read_history, so_far}}
use Rattle.filed_repository.proofs.{Histories.{comes, history_more, keeps_rules, reads, past_many}, Next.whole}

pub if_judged : {T : Type 0} (P : Type 0) (r : Result T FileFault) → Judges r P → IfOk r (λ x. P)
if_judged P (Ok x) is = is
if_judged P (Err fault) is = tt

same_ok : {X : Type 0} (x y : X) → ◌≡◌ {A = Result X FileFault} (Ok x) (Ok y) → x ≡ y
same_ok x y e = ap (the x) e
  where
    the : {Y : Type 0} → Y → Result Y FileFault → Y
    the d (Ok z) = z
    the d (Err fault) = d

module _ (h : Held) (tables : List Table) (files : RevisionBytes) (some : tables ≡ [] → ⊥) (is : IsHistory (read_history h tables files)) where
  -- all that is held has been read
  pub all_said : AreTabled files (blocks_of h.nodes) tables h.changes
  all_said = subst (λ bs. AreTabled files bs tables h.changes) (whole tables (blocks_of h.nodes) some)
      (subst (AreTabled files (so_far tables (blocks_of h.nodes)) tables) (whole tables h.changes some) is.all)

  long : length files ≡ length tables
  long = all_said.all ∙ sym all_said.tabled

  pos : 0 < length files
  pos = by tables some long
    where
      by : (ts : List Table) → (ts ≡ [] → ⊥) → length files ≡ length ts → 0 < length files
      by [] none e = absurd (none refl)
      by (t ∷ ts) none e = omega (arith, e)

  module _ (file : List ℕ) (pieces : List FilePiece) (said : List FileChange) (says : revision_of (length tables) file ≡ Ok (pieces, said)) where
    says_it : revision_of (length files) file ≡ Ok (pieces, said)
    says_it = ap (λ n. revision_of n file) long ∙ says

    module _ (block : Block) (table : Table) (change : ChangeMap)
        (tabled : AreTabled (files ++ file ∷ []) (blocks_of h.nodes ++ block ∷ []) (tables ++ table ∷ []) (h.changes ++ change ∷ []))
        (judged : judged_revision (length tables) pieces said ≡ Ok tt) (readable : IsReadableFile (files ++ file ∷ []) tables pieces said) where
      pub comes_next : IsNextRevision (past_of h.nodes) block (entries change) → ComesNext (read_history h tables files) file block change
      comes_next rules = record {
        pieces = pieces;
        said = said;
        says = says_it;
        judged = ap (λ n. judged_revision n pieces said) long ∙ judged;
        readable = readable;
        nodes = h.nodes;
        before = sym (whole tables (blocks_of h.nodes) some);
        rules = rules;
      }

      pub has_room : MayComeNext h block (entries change) → length files < REVISION_LIMIT
      has_room may = let room = may.room in let many = held_many h in omega (arith, room, many, all_said.all, all_said.listed)

      pub history_of_next : MayComeNext h block (entries change) → IsHistory (with_next (read_history h tables files) file block table change)
      history_of_next may = history_more (read_history h tables files) is file block table change
          (subst (λ bs. AreTabled (files ++ file ∷ []) (bs ++ block ∷ []) (tables ++ table ∷ []) (so_far tables h.changes ++ change ∷ []))
          (sym (whole tables (blocks_of h.nodes) some))
          (subst (λ cs. AreTabled (files ++ file ∷ []) (blocks_of h.nodes ++ block ∷ []) (tables ++ table ∷ []) (cs ++ change ∷ []))
          (sym (whole tables h.changes some)) tabled))
          (λ p. comes_next may.next) (λ none. let some_files = pos in absurd (omega (arith, none, some_files))) (has_room may)

      pub may_come : HasHistory (files ++ file ∷ []) → AreHigh (with_block (node_at h.nodes) (count h.nodes) block.nodes.items)
          → MayComeNext h block (entries change)
      may_come has high =
          let room = has.1.1.room in
          let many = held_many h in
          let longer : length has.0.files ≡ length files + 1 = ap length has.1.0 ∙ length-append files (file ∷ []) in
          record {
            room = omega (arith, room, many, longer, all_said.all, all_said.listed);
            next = keeps_rules has.0 has.1.1 files file has.1.0 h.nodes tables h.changes all_said block table change tabled high pos;
          }

  -- what the files of a history say
  module _ (file : List ℕ) (has : HasHistory (files ++ file ∷ [])) where
    pub says_of : (ps : List FilePiece) × ((cs : List FileChange) × ((revision_of (length tables) file ≡ Ok (ps, cs))
        × ((judged_revision (length tables) ps cs ≡ Ok tt) × IsReadableFile (files ++ file ∷ []) tables ps cs)))
    says_of =
        let c = comes has.0 has.1.1 files file has.1.0 h.nodes tables h.changes all_said pos in
        let same : length (first (length files) has.0).files ≡ length tables =
        past_many has.0 has.1.1 files file has.1.0 h.nodes tables h.changes all_said ∙ long in (
          c.pieces,
          (
            c.said,
            (
              ap (λ n. revision_of n file) (sym same) ∙ c.says,
              (
                ap (λ n. judged_revision n c.pieces c.said) (sym same) ∙ c.judged,
                reads has.0 has.1.1 files file has.1.0 h.nodes tables h.changes all_said pos,
              ),
            ),
          ),
        )

    pub right_file : (pieces : List FilePiece) (said : List FileChange) → revision_of (length tables) file ≡ Ok (pieces, said)
        → (judged_revision (length tables) pieces said ≡ Ok tt) × IsReadableFile (files ++ file ∷ []) tables pieces said
    right_file pieces said says =
        let s = says_of in
        subst (λ (x : List FilePiece × List FileChange). (judged_revision (length tables) x.0 x.1 ≡ Ok tt)
        × IsReadableFile (files ++ file ∷ []) tables x.0 x.1)
        (same_ok (s.0, s.1.0) (pieces, said) (sym s.1.1.0 ∙ says)) (s.1.1.1.0, s.1.1.1.1)
