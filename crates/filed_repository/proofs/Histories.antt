-- Revisions that come one after another.
use Rattle.std.proofs.Common.{◌≡◌, ◌≤◌, ◌<◌, ℕ, zero, suc, List, [], ◌∷◌, ◌++◌, take, length, Some, option_map, option_and_then, refl, sym, ap, subst, ◌∙◌}
use Rattle.std.proofs.{Common.{arith, length-append, ⊎_elim}, Math.Seq.take-append_seam, lemmas.Bool.{cases_eq, cases_lt}}
use Rattle.std.proofs.{lemmas.List.{take-append-le, take_all}, lemmas.Option.{none-some, same_Some, slice_get_within}}
use Rattle.std.specs.{FinMap.entries, Prelude.slice_get}
use Rattle.repo_api.specs.{States.ChangeMap, declared.limits.TheConstants.REVISION_LIMIT}
use Rattle.noderevs.specs.{Heights.AreHigh, Held.{blocks_of, count, node_at}, Nodes.{node_in, root_in, with_block}, declared.node_rev.Block.Block}
use Rattle.noderevs.specs.{declared.node_rev.NodeId.NodeId, declared.nodes.Nodes.Nodes}
use Rattle.block_rules.specs.Rules.{IsNextRevision, past_of}
use Rattle.filed_trees.specs.{Comparing.AreSame, Pieces.RevisionBytes, Readable.IsReadableFile, Tables.AreTabled, Values.{AreSameNext, AreSameRevisions}}
use Rattle.filed_trees.specs.declared.table.Table.{Table}
use Rattle.filed_trees.proofs.{OneRepository.{readable_same, same_revisions}, SameNext.same_next}
use Rattle.filed_repository.specs.Histories.{AreSaid, ComesNext, History, IsHistory, first, with_next, ComesFirst}
use Rattle.noderevs.proofs.Pushing.{last_place, other_place}

-- ---- the first of revisions, and one more

module _ (h : History) (said : AreSaid h) where
  -- all of them are the first so many
  first_all : (n : ℕ) → length h.files ≤ n → first n h ≡ h
  first_all n le = λ i. record {
    files = take_all n h.files le i;
    blocks = take_all n h.blocks (omega (arith, le, said.all)) i;
    tables = take_all n h.tables (omega (arith, le, said.all, said.tabled)) i;
    changes = take_all n h.changes (omega (arith, le, said.all, said.listed)) i;
  }

  module _ (file : List ℕ) (block : Block) (table : Table) (change : ChangeMap) where
    first_same : (n : ℕ) → n ≤ length h.files → first n (with_next h file block table change) ≡ first n h
    first_same n le = λ i. record {
      files = take-append-le n h.files (file ∷ []) le i;
      blocks = take-append-le n h.blocks (block ∷ []) (omega (arith, le, said.all)) i;
      tables = take-append-le n h.tables (table ∷ []) (omega (arith, le, said.all, said.tabled)) i;
      changes = take-append-le n h.changes (change ∷ []) (omega (arith, le, said.all, said.listed)) i;
    }

pub no_history : AreTabled [] [] [] [] → IsHistory (record { files = []; blocks = []; tables = []; changes = [] })
no_history nothing = record {
  all = nothing;
  said = λ n le. subst AreSaid (sym (first_all (record { files = []; blocks = []; tables = []; changes = [] }) nothing n (omega arith))) nothing;
  next = λ n file block change pos at_file at_block at_change. absurd (none-some file at_file);
  begins = λ file block change at_file at_block at_change. absurd (none-some file at_file);
  room = omega arith;
}

pub history_more : (h : History) (is : IsHistory h) (file : List ℕ) (block : Block) (table : Table) (change : ChangeMap)
    → AreSaid (with_next h file block table change) → (0 < length h.files → ComesNext h file block change) → (length h.files ≡ 0 → ComesFirst file block change)
    → length h.files < REVISION_LIMIT
    → IsHistory (with_next h file block table change)
history_more h is file block table change more came first_came room =
    let said = is.all in
    record {
      all = more;
      said = λ n le. ⊎_elim
          (λ less. subst AreSaid (sym (first_same h said file block table change n (omega (arith, less)))) (is.said n (omega (arith, less))))
          (λ ge. ⊎_elim
          (λ e. subst AreSaid (sym (first_same h said file block table change n (omega (arith, e)))) (is.said n (omega (arith, e))))
          (λ ne. subst AreSaid (sym (first_all (with_next h file block table change) more n (omega (arith, ge, ne, length-append h.files (file ∷ []))))) more)
          (cases_eq n (length h.files)))
          (cases_lt n (length h.files));
      begins = λ f b c at_file at_block at_change. ⊎_elim
          (λ e.
          let is_file : file ≡ f = same_Some file f (sym (last_place h.files file) ∙ ap (slice_get (h.files ++ file ∷ [])) (sym e) ∙ at_file) in
          let is_block : block ≡ b = same_Some block b (sym (last_place h.blocks block) ∙ ap (slice_get (h.blocks ++ block ∷ [])) (sym said.all ∙ sym e) ∙ at_block) in
          let is_change : change ≡ c = same_Some change c (sym (last_place h.changes change)
          ∙ ap (slice_get (h.changes ++ change ∷ [])) (said.listed ∙ sym said.all ∙ sym e) ∙ at_change) in
          subst (λ x. ComesFirst f b x) is_change (subst (λ x. ComesFirst f x change) is_block (subst (λ x. ComesFirst x block change) is_file
          (first_came (sym e)))))
          (λ ne. is.begins f b c (sym (other_place h.files file 0 ne) ∙ at_file)
          (sym (other_place h.blocks block 0 (λ e. ne (e ∙ sym said.all))) ∙ at_block)
          (sym (other_place h.changes change 0 (λ e. ne (e ∙ said.listed ∙ sym said.all))) ∙ at_change))
          (cases_eq 0 (length h.files));
      next = λ n f b c pos at_file at_block at_change. ⊎_elim
          (λ e.
          let is_file : file ≡ f = same_Some file f (sym (last_place h.files file) ∙ ap (slice_get (h.files ++ file ∷ [])) (sym e) ∙ at_file) in
          let is_block : block ≡ b = same_Some block b (sym (last_place h.blocks block) ∙ ap (slice_get (h.blocks ++ block ∷ [])) (sym said.all ∙ sym e) ∙ at_block) in
          let is_change : change ≡ c = same_Some change c (sym (last_place h.changes change)
          ∙ ap (slice_get (h.changes ++ change ∷ [])) (said.listed ∙ sym said.all ∙ sym e) ∙ at_change) in
          let past : h ≡ first n (with_next h file block table change) =
          sym (first_same h said file block table change n (omega (arith, e)) ∙ first_all h said n (omega (arith, e))) in
          subst (λ p. ComesNext p f b c) past
          (subst (λ x. ComesNext h f b x) is_change (subst (λ x. ComesNext h f x change) is_block (subst (λ x. ComesNext h x block change) is_file
          (came (omega (arith, e, pos)))))))
          (λ ne.
          let old : slice_get h.files n ≡ Some f = sym (other_place h.files file n ne) ∙ at_file in
          let within = slice_get_within h.files n f old in
          subst (λ p. ComesNext p f b c) (sym (first_same h said file block table change n (omega (arith, within))))
          (is.next n f b c pos old
          (sym (other_place h.blocks block n (λ e. ne (e ∙ sym said.all))) ∙ at_block)
          (sym (other_place h.changes change n (λ e. ne (e ∙ said.listed ∙ sym said.all))) ∙ at_change)))
          (cases_eq n (length h.files));
      room = omega (arith, room, length-append h.files (file ∷ []));
    }

-- ---- the same revisions elsewhere

there_at : {X : Type 0} (xs : List X) (n : ℕ) → length xs ≡ suc n → (x : X) × (slice_get xs n ≡ Some x)
there_at [] n long = absurd (omega (arith, long))
there_at (x ∷ xs) zero long = (x, refl)
there_at (x ∷ xs) (suc n) long = there_at xs n (omega (arith, long))

module _ (h : History) (is : IsHistory h) (files : RevisionBytes) (file : List ℕ) (are : h.files ≡ files ++ file ∷ []) (nodes : Nodes)
    (tables : List Table) (changes : List ChangeMap) (said : AreTabled files (blocks_of nodes) tables changes) where
  abbrev n : ℕ
  n = length files

  abbrev past : History
  past = first n h

  many : length h.files ≡ suc n
  many = ap length are ∙ omega (arith, length-append files (file ∷ []))

  past_files : past.files ≡ files
  past_files = ap (take n) are ∙ take-append_seam files (file ∷ [])

  past_said : AreTabled files past.blocks past.tables past.changes
  past_said = subst (λ fs. AreTabled fs past.blocks past.tables past.changes) past_files (is.said n (omega (arith, many)))

  all_said : AreTabled (files ++ file ∷ []) h.blocks h.tables h.changes
  all_said = subst (λ fs. AreTabled fs h.blocks h.tables h.changes) are is.all

  pub the_block : (b : Block) × (slice_get h.blocks n ≡ Some b)
  the_block = there_at h.blocks n (sym all_said.all ∙ omega (arith, length-append files (file ∷ [])))

  pub the_change : (c : ChangeMap) × (slice_get h.changes n ≡ Some c)
  the_change = there_at h.changes n (all_said.listed ∙ sym all_said.all ∙ omega (arith, length-append files (file ∷ [])))

  pub comes : 0 < n → ComesNext past file the_block.0 the_change.0
  comes pos = is.next n file the_block.0 the_change.0 pos (ap (λ fs. slice_get fs n) are ∙ last_place files file) the_block.1 the_change.1

  same_past : AreSameRevisions past.blocks (blocks_of nodes) past.changes changes
  same_past = same_revisions files past.blocks (blocks_of nodes) past.tables tables past.changes changes past_said said

  pub past_many : length past.files ≡ n
  past_many = ap length past_files

  -- what can be read after those can be read after these
  pub reads : (pos : 0 < n) → IsReadableFile (files ++ file ∷ []) tables (comes pos).pieces (comes pos).said
  reads pos = readable_same files past.blocks (blocks_of nodes) past.tables tables past.changes changes past_said said (files ++ file ∷ [])
      (comes pos).pieces (comes pos).said
      (subst (λ fs. IsReadableFile (fs ++ file ∷ []) past.tables (comes pos).pieces (comes pos).said) past_files (comes pos).readable)

  module _ (c : Block) (u : Table) (l : ChangeMap)
      (after : AreTabled (files ++ file ∷ []) (blocks_of nodes ++ c ∷ []) (tables ++ u ∷ []) (changes ++ l ∷ []))
      (high : AreHigh (with_block (node_at nodes) (count nodes) c.nodes.items)) where
    same_after : AreSameRevisions h.blocks (blocks_of nodes ++ c ∷ []) h.changes (changes ++ l ∷ [])
    same_after = same_revisions (files ++ file ∷ []) h.blocks (blocks_of nodes ++ c ∷ []) h.tables (tables ++ u ∷ []) h.changes (changes ++ l ∷ [])
        all_said after

    last_block : slice_get (blocks_of nodes ++ c ∷ []) n ≡ Some c
    last_block = ap (slice_get (blocks_of nodes ++ c ∷ [])) said.all ∙ last_place (blocks_of nodes) c

    same_blocks : (pos : 0 < n) → AreSameNext (comes pos).nodes nodes the_block.0 c
    same_blocks pos = record {
      nodes = λ id. subst (λ bs. AreSame (node_in bs id) (node_at nodes id)) (sym (comes pos).before) (same_past.nodes id);
      roots = λ k. ap (λ bs. root_in bs k) (comes pos).before ∙ same_past.roots k;
      many = ap length (comes pos).before ∙ sym past_said.all ∙ said.all;
      block = λ k.
          let id : NodeId = record { rev = n; place = k } in
          subst (λ o. AreSame o (slice_get c.nodes.items k)) (ap (option_and_then (λ (b : Block). slice_get b.nodes.items k)) the_block.1)
          (subst (AreSame (node_in h.blocks id)) (ap (option_and_then (λ (b : Block). slice_get b.nodes.items k)) last_block)
          (same_after.nodes id));
      root = same_Some the_block.0.root c.root (sym (ap (option_map (λ (b : Block). b.root)) the_block.1) ∙ same_after.roots n
          ∙ ap (option_map (λ (b : Block). b.root)) last_block);
    }

    same_changes : entries the_change.0 ≡ entries l
    same_changes = same_Some (entries the_change.0) (entries l) (sym (ap (option_map entries) the_change.1) ∙ same_after.changes n
        ∙ ap (option_map entries) (ap (slice_get (changes ++ l ∷ [])) (said.all ∙ sym said.listed) ∙ last_place changes l))

    pub keeps_rules : 0 < n → IsNextRevision (past_of nodes) c (entries l)
    keeps_rules pos = subst (IsNextRevision (past_of nodes) c) same_changes
        (same_next (comes pos).nodes nodes the_block.0 c (same_blocks pos) (entries the_change.0) (comes pos).rules high)
