-- Behind the files of a history, with the file that is written they are those of a history.
use Rattle.std.proofs.Common.{◌≡◌, ◌<◌, ◌^◌, ℕ, List, [], ◌∷◌, ◌++◌, length, map, reverse, Option, Some, None, Ok, Vec, refl, sym, ap, subst, ◌∙◌, arith}
use Rattle.std.proofs.lemmas.Option.{same_Some}
use Rattle.std.specs.{FinMap.entries, Prelude.{Err, IfOk, IfSome, Result, slice_get}, declared.alloc.Global.Global}
use Rattle.svnpath.specs.Components.{IsRightPath}
use Rattle.repo_api.specs.{Histories.{Changed, history_of}, States.{LockMap, youngest}, declared.change.Source.Source}
use Rattle.repo_api.specs.declared.limits.TheConstants.{REVISION_LIMIT}
use Rattle.noderevs.specs.{Held.{blocks_of, count}, declared.node_rev.Block.Block}
use Rattle.noderevs.proofs.Pushing.{last_place}
use Rattle.block_rules.specs.Rules.{IsNextRevision, past_of}
use Rattle.shared_revisions.specs.{Contents.state_of, Growing.HasOneMore, declared.held.Held.Held}
use Rattle.shared_revisions.proofs.Seen.{held_many}
use Rattle.world.specs.Adding.{MayComeNext}
use Rattle.fsfs_nodes.specs.declared.current.NextIds.{NextIds}
use Rattle.fsfs.specs.{Judging.judged_revision, Whole.file_piece, Pieces.revision_of}
use Rattle.filed_trees.specs.{Pieces.RevisionBytes, Tables.{AreTabled, HasRows}}
use Rattle.filed_writing.specs.{Blocks.{AreRightChanges, ChangeIsRight, SourcesAreEarlier}, Writing.IsWritten, declared.revision.Revision.Revision}
use Rattle.filed_writing.specs.declared.writing.Written.{Written}
use Rattle.filed_laws.specs.{Earlier.AreEarlierLines, Fitting.{AreNamedChanges, NextFit, RevisionFits, SourceFits}, Right.IsRightRevision}
use Rattle.filed_laws.proofs.{Said.tabled_fit, Whole.read_again, WholeBlocks.{readable_again, tabled_again}, Judged.judged_right}
use Rattle.filed_repository.specs.Histories.{ComesNext, IsHistory, held_history}
use Rattle.filed_repository.proofs.{Earlier.earlier_lines, Histories.history_more, Newest.{newest_changes, youngest_is}, Rows.rows_written}

-- ---- the youngest block and changes

-- there is one block and one list of changes behind those that were held
pub right_next : (old new : Held) (locks : LockMap) (more : HasOneMore old new) (number : ℕ) (block : Block) (changes : List Changed)
    → number ≡ youngest (state_of new locks) → Some block ≡ slice_get (blocks_of new.nodes) number
    → changes ≡ history_of (state_of new locks) number → count old.nodes < REVISION_LIMIT
    → IsNextRevision (past_of old.nodes) block changes → MayComeNext old more.block (entries more.change)
right_next old new locks more number block changes number_is at are room rules =
    let place : number ≡ length (blocks_of old.nodes) = number_is ∙ youngest_is old new locks more ∙ sym old.even in
    let same_block : block ≡ more.block = same_Some block more.block
    (at ∙ ap (slice_get (blocks_of new.nodes)) place ∙ ap (λ bs. slice_get bs (length (blocks_of old.nodes))) more.blocks
    ∙ last_place (blocks_of old.nodes) more.block) in
    let same_changes : changes ≡ entries more.change =
    newest_changes old new locks more changes (are ∙ ap (history_of (state_of new locks)) number_is) in
    record {
      room = subst (λ n. n < REVISION_LIMIT) (old.even ∙ sym (held_many old)) room;
      next = subst (λ b. IsNextRevision (past_of old.nodes) b (entries more.change)) same_block
          (subst (IsNextRevision (past_of old.nodes) block) same_changes rules);
    }

-- ---- what is known of the changes

source_fits : (n : ℕ) → n < 2 ^ 32 → (o : Option Source) → IfSome o (λ source. IsRightPath source.path)
    → IfSome o (λ source. source.revision < n) → IfSome o SourceFits
source_fits n few None right earlier = tt
source_fits n few (Some source) right earlier = record { revision = omega (arith, few, earlier); path = right.components }

named : (r : Revision) → r.number < 2 ^ 32 → AreRightChanges r.changes.now → SourcesAreEarlier r → AreNamedChanges r.changes.now
named r few right earlier change has =
    let is : ChangeIsRight change = right change has in record {
      path = is.path.components;
      source = source_fits r.number few change.1.source is.source (earlier change has);
    }

pub ok_then : {X E : Type 0} (P Q : X → Type 0) → ((x : X) → P x → Q x) → (r : Result X E) → IfOk r P → IfOk r Q
ok_then P Q by (Ok x) is = by x is
ok_then P Q by (Err e) is = tt

-- a file is no longer than memory
pub short : (bytes : Vec ℕ Global) → length bytes.items < 2 ^ 64
short bytes = let long = bytes.ok.0 in let within = bytes.ok.1 in let small = bytes.small in omega (arith, long, within, small)

-- ---- the file that is written

module _ (old new : Held) (more : HasOneMore old new) (may : MayComeNext old more.block (entries more.change)) (r : Revision) (ids : Option NextIds)
    (made : Written) (written : IsWritten r ids made) (number_is : r.number ≡ length r.tables.now) (nodes_are : r.nodes.now ≡ new.nodes)
    (listed : r.changes.now ≡ entries more.change) (next : IfSome ids NextFit) (files : RevisionBytes)
    (is : IsHistory (held_history old r.tables.now files)) where
  abbrev file : List ℕ
  file = made.file.items

  small : length file < 2 ^ 64
  small = short made.file

  all : AreTabled files (blocks_of old.nodes) r.tables.now old.changes
  all = is.all

  same : r.number ≡ length files
  same = number_is ∙ all.tabled ∙ sym all.all

  nodes : blocks_of r.nodes.now ≡ blocks_of old.nodes ++ more.block ∷ []
  nodes = ap blocks_of nodes_are ∙ more.blocks

  right : IsRightRevision r
  right = record {
    past = old.nodes;
    block = more.block;
    nodes = nodes;
    number = number_is ∙ all.tabled;
    tabled = number_is;
    rules = subst (IsNextRevision (past_of old.nodes) more.block) (sym listed) may.next;
  }

  few : r.number < 2 ^ 32
  few = let room = is.room in omega (arith, same, room)

  fits : RevisionFits r ids
  fits = record {
    number = few;
    tables = tabled_fit files (blocks_of old.nodes) r.tables.now old.changes all;
    next = next;
    changes = named r few written.right.changes written.earlier;
  }

  lines : AreEarlierLines r.tables.now
  lines = earlier_lines (held_history old r.tables.now files) is

  rows : HasRows (map file_piece (reverse written.laid.pieces)) made.table
  rows = rows_written r ids file made.ids made.table written.laid written.rows

  tabled : AreTabled (files ++ file ∷ []) (blocks_of old.nodes ++ more.block ∷ []) (r.tables.now ++ made.table ∷ []) (old.changes ++ more.change ∷ [])
  tabled = tabled_again r ids file made.ids made.table files (blocks_of old.nodes) more.block old.changes more.change right lines fits written.right
      written.laid small rows all nodes (sym listed)

  comes : ComesNext (held_history old r.tables.now files) file more.block more.change
  comes = record {
    pieces = map file_piece (reverse written.laid.pieces);
    said = written.laid.changes;
    says = ap (λ n. revision_of n file) (sym same) ∙ read_again r ids file made.ids right lines fits written.laid small;
    judged = ap (λ n. judged_revision n (map file_piece (reverse written.laid.pieces)) written.laid.changes) (sym same)
        ∙ judged_right r ids file made.ids right lines fits written.earlier written.laid small;
    readable = readable_again r ids file made.ids files (blocks_of old.nodes) more.block old.changes more.change made.table right lines fits
        written.right written.laid small rows all nodes (sym listed);
    nodes = old.nodes;
    before = refl;
    rules = may.next;
  }

  room : length files < REVISION_LIMIT
  room = let left = may.room in let many = held_many old in let even = old.even in omega (arith, left, many, even, all.all)

  some : 0 < length files
  some = let begun = old.begun in let even = old.even in omega (arith, begun, even, all.all)

  pub goes_on : IsHistory (held_history new (r.tables.now ++ made.table ∷ []) (files ++ file ∷ []))
  goes_on =
      subst IsHistory
      (λ i. record {
        files = files ++ file ∷ [];
        blocks = sym more.blocks i;
        tables = r.tables.now ++ made.table ∷ [];
        changes = sym more.changes i;
      })
      (history_more (held_history old r.tables.now files) is file more.block made.table more.change tabled (λ p. comes)
      (λ none. absurd (omega (arith, none, some))) room)
