-- What is read of a file that was laid out is judged to be right.
use Rattle.std.proofs.Common.{◌≡◌, ◌<◌, ◌≤◌, ◌^◌, ◌-◌, ◌⊎◌, inl, inr, ◌==◌, ℕ, suc, Bool, true, false, List, [], ◌∷◌, ◌++◌, length, map, reverse, take, Option}
use Rattle.std.proofs.Common.{Some, None, Result, Ok, Err, refl, sym, ap, subst, ◌∙◌, arith, if◌then◌else◌}
use Rattle.std.proofs.{lemmas.Bool.{cases_eq, cases_lt, eq-eqb, lt-ltb, ne_eqb}, lemmas.List.length-append}
use Rattle.std.proofs.{lemmas.List.Elements.{All-contains_itself, All-head, All-tail}, lemmas.List.Sorted.{Contains-permutation, IsPermutation-sym}}
use Rattle.std.proofs.lemmas.Map.Views.{Contains-from_lookup}
use Rattle.std.specs.{Arc.arc_value, Cmp.unsigned_tied, Prelude.{All, IfSome, option_map, slice_get}}
use Rattle.svnpath.specs.{Listings.{listing, listing_permutation}, PathLaws.at_is, Paths.PathValue}
use Rattle.repo_api.specs.{Histories.Changed, declared.change.Action.Action, declared.change.Action.TheVariants.{Add, Delete, Replace, Modify}}
use Rattle.repo_api.specs.{declared.change.Change.Change, declared.change.Source.Source}
use Rattle.revision_data.specs.Found.{found}
use Rattle.noderevs.specs.declared.node_rev.NodeRev.{NodeRev}
use Rattle.fsfs_nodes.specs.{declared.current.NextIds.NextIds, declared.entries.DirectoryEntry.DirectoryEntry, declared.entries.EntryKind.EntryKind}
use Rattle.fsfs_nodes.specs.{declared.entries.EntryKind.TheVariants.{File, Directory}, Changes.changes_bytes, Trailers.trailer_bytes}
use Rattle.fsfs_nodes.specs.declared.change.FileChange.{FileChange}
use Rattle.fsfs_text.specs.{declared.id.FileId.FileId, declared.id.IdPart.IdPart, declared.place.Place.Place, Reading.◌>>=◌, declared.fault.FileFault.FileFault}
use Rattle.fsfs_text.specs.declared.fault.FileFault.TheVariants.{BadLine, Dangling}
use Rattle.fsfs.specs.{Files.{ArePlaced, Piece, file_bytes, pieces_bytes}, Pieces.entries_in, declared.piece.FilePiece.FilePiece, Judging.{Judged, Kinds}}
use Rattle.fsfs.specs.Judging.{is_earlier_id, is_earlier_place, is_kind, is_right, judged_changes, judged_entries, judged_node, judged_piece, judged_pieces}
use Rattle.fsfs.specs.{Judging.{judged_revision, kinds_of}, Whole.file_piece}
use Rattle.filed_trees.specs.Tables.{placed_in}
use Rattle.filed_writing.specs.{Layout.{IsLaidOut, ListsChanges, change_of, changed_id, comes, made_from, pieces_here}, declared.revision.Revision.Revision}
use Rattle.filed_writing.specs.{Pieces.{all_some, copied, copied_by, counted, file_change, ids_of, kind_of, source_place}, Blocks.SourcesAreEarlier}
use Rattle.filed_laws.specs.{Earlier.AreEarlierLines, Fitting.RevisionFits, Right.IsRightRevision}
use Rattle.filed_laws.proofs.{Changing.split, Coming.from_tables, Made.here_placed, Older.{IsOlder, all_older}}
use Rattle.filed_laws.proofs.{Options.{each_some, map_some, more_some, of_some}, Rising.rising, Backwards.{was_written, is_read}}
use Rattle.filed_laws.proofs.{Came.{IsNew, IsOld, in_block, new_or_old, node_here, of, reads}, JudgedListed.{AreListed, IsListed}}
use Rattle.filed_laws.proofs.Offsets.{AreOfKind, found_kind, kind_at}

-- ---- sources

-- where there are no changes, there are no copies
pub no_sources : (r : Revision) → r.changes.now ≡ [] → SourcesAreEarlier r
no_sources r none change among =
    let long = ap (λ (l : List Changed). length l) none in absurd (omega (arith, long, among.1))

source_found : (r : Revision) → SourcesAreEarlier r → (path : PathValue) (o : Option Change) → found r.changes.now path ≡ o
    → IfSome (copied o) (λ source. source.revision < r.number)
source_found r sources path None is = tt
source_found r sources path (Some change) is = by change.action (sources (path, change) (Contains-from_lookup at_is path change r.changes.now is))
  where
    by : (action : Action) → IfSome change.source (λ source. source.revision < r.number)
        → IfSome (copied_by action change.source) (λ source. source.revision < r.number)
    by Add older = older
    by Replace older = older
    by Delete older = tt
    by Modify older = tt

earlier_place : (n : ℕ) (o : Option Place) → IfSome o (λ place. place.revision < n) → is_earlier_place n o ≡ true
earlier_place n None older = refl
earlier_place n (Some place) older = lt-ltb place.revision n older

earlier_id : (n : ℕ) (o : Option FileId) → IfSome o (λ id. id.revision < n) → is_earlier_id n o ≡ true
earlier_id n None older = refl
earlier_id n (Some id) older = lt-ltb id.revision n older

-- ---- changes

one_change : (r : Revision) (written : List FileId) (change : Changed) → IfSome change.1.source (λ source. source.revision < r.number)
    → IfSome (change_of r written change) (λ said. is_earlier_place r.number said.source ≡ true)
one_change r written change older =
    map_some (λ said. is_earlier_place r.number said.source ≡ true) (λ id. file_change id change) (changed_id r written change.0 change.1.action)
    (each_some (λ id. is_earlier_place r.number (option_map source_place change.1.source) ≡ true) (changed_id r written change.0 change.1.action)
    (λ id is. earlier_place r.number (option_map source_place change.1.source)
    (map_some (λ (place : Place). place.revision < r.number) source_place change.1.source older)))

abbrev IsOlderChange : Revision → Changed → Type 0
IsOlderChange r change = IfSome change.1.source (λ source. source.revision < r.number)

all_changes : (r : Revision) (written : List FileId) (listed : List Changed) (changes : List FileChange) → All (IsOlderChange r) listed
    → all_some (change_of r written) listed ≡ Some changes → judged_changes r.number changes ≡ Ok tt
all_changes r written [] changes older e =
    let same : [] ≡ changes = cc e in subst (λ (l : List FileChange). judged_changes r.number l ≡ Ok tt) same refl
all_changes r written (change ∷ listed) changes older e =
    let parts = split (change_of r written) change listed changes e in
    let first = of_some (λ said. is_earlier_place r.number said.source ≡ true) (change_of r written change) parts.first parts.first_is
    (one_change r written change (All-head (IsOlderChange r) change listed older)) in
    subst (λ (l : List FileChange). judged_changes r.number l ≡ Ok tt) (sym parts.whole)
    (ap (λ (t : Bool). if t then judged_changes r.number parts.rest else Err BadLine) first
    ∙ all_changes r written listed parts.rest (All-tail (IsOlderChange r) change listed older) parts.rest_is)

changes_right : (r : Revision) (written : List FileId) (changes : List FileChange) → SourcesAreEarlier r → ListsChanges r written changes
    → judged_changes r.number changes ≡ Ok tt
changes_right r written changes sources e =
    let all = r.changes.now in
    all_changes r written (listing all) changes
    (λ k d lt. sources _ (Contains-permutation (listing all) all _ (IsPermutation-sym all (listing all) (listing_permutation all)) (All-contains_itself (listing all) k d lt))) e

-- ---- node revisions

same_kind : (kind : EntryKind) → is_kind kind (Some kind) ≡ true
same_kind File = refl
same_kind Directory = refl

if_right : (c b : Bool) → b ≡ true → (if c then b else true) ≡ true
if_right true b is = is
if_right false b is = refl

from_each : (offset : ℕ) (kind : EntryKind) (pieces : List FilePiece)
    → ((k : ℕ) (piece : FilePiece) → slice_get pieces k ≡ Some piece → piece.node.id.offset ≡ offset → piece.node.kind ≡ kind) → AreOfKind offset kind pieces
from_each offset kind [] each = tt
from_each offset kind (piece ∷ pieces) each = (each 0 piece refl, from_each offset kind pieces (λ k other at. each (suc k) other at))

all_judged : (n : ℕ) (kinds : Kinds) (pieces : List FilePiece) → ((k : ℕ) (piece : FilePiece) → slice_get pieces k ≡ Some piece → judged_piece n kinds piece ≡ Ok tt)
    → judged_pieces n kinds pieces ≡ Ok tt
all_judged n kinds [] each = refl
all_judged n kinds (piece ∷ pieces) each =
    ap (λ (j : Judged). j >>= λ x. judged_pieces n kinds pieces) (each 0 piece refl) ∙ all_judged n kinds pieces (λ k other at. each (suc k) other at)

same_some : {X : Type 0} (x y : X) → Some x ≡ Some y → x ≡ y
same_some x y e = cc e

module _ (r : Revision) (ids : Option NextIds) (pieces : List Piece) (right : IsRightRevision r) (lines : AreEarlierLines r.tables.now) (facts : RevisionFits r ids)
    (e : pieces_here r ids ≡ Some pieces) (bound : length (pieces_bytes pieces) < 2 ^ 64) (sources : SourcesAreEarlier r) where
  abbrev all : List FilePiece
  all = map file_piece (reverse pieces)

  abbrev kinds : Kinds
  kinds = kinds_of all

  one_place : (j k : ℕ) (piece other : Piece) → slice_get pieces j ≡ Some piece → slice_get pieces k ≡ Some other → piece.node.id.offset ≡ other.node.id.offset
      → piece ≡ other
  one_place j k piece other at there same = by (cases_eq j k) (cases_lt j k)
    where
      placed : ArePlaced r.number 0 pieces
      placed = here_placed r ids pieces e

      by : (j ≡ k) ⊎ (j ≡ k → ⊥) → (j < k) ⊎ (k ≤ j) → piece ≡ other
      by (inl is) order = same_some piece other (sym at ∙ ap (slice_get pieces) is ∙ there)
      by (inr differ) (inl lt) = absurd (omega (arith, same, rising r.number 0 pieces j k piece other placed at there lt))
      by (inr differ) (inr ge) = absurd (omega (arith, same, rising r.number 0 pieces k j other piece placed there at (omega (arith, ge, differ))))

  kind_is : (k : ℕ) (piece : Piece) → slice_get pieces k ≡ Some piece → kind_at piece.node.id.offset kinds ≡ Some piece.node.kind
  kind_is k piece at =
      found_kind [] all (length pieces - 1 - k) (file_piece piece)
      (unsigned_tied piece.node.id.offset piece.node.id.offset ∙ eq-eqb piece.node.id.offset piece.node.id.offset refl)
      (from_each piece.node.id.offset piece.node.kind all (λ j other there same.
      let was = was_written pieces j other there in
      let one = one_place was.place k was.written piece was.there at (ap (λ (p : FilePiece). p.node.id.offset) was.is ∙ same) in
      ap (λ (p : FilePiece). p.node.kind) (sym was.is) ∙ ap (λ (p : Piece). p.node.kind) one))
      (is_read pieces k piece at)

  entry_right : (k : ℕ) (entry : DirectoryEntry) → IsListed r (ids_of (take k pieces)) entry → is_right r.number kinds entry ≡ true
  entry_right k entry listed = by (new_or_old r pieces k listed.kid entry.id listed.id)
    where
      by : IsNew r pieces listed.kid entry.id ⊎ IsOld r listed.kid entry.id → is_right r.number kinds entry ≡ true
      by (inl new) =
          let o = of r ids pieces right lines facts e bound listed.kid.place new.piece new.there in
          let same : o.node ≡ listed.node =
          same_some o.node listed.node (sym (in_block r ids pieces right lines facts e bound listed.kid.place o.node o.there)
          ∙ sym (node_here r ids pieces right lines facts e bound listed.kid new.here) ∙ listed.there) in
          let kind : new.piece.node.kind ≡ entry.kind =
          ap (λ (p : Piece). p.node.kind) (sym o.made.is) ∙ ap (λ (n : NodeRev). kind_of (arc_value n.content)) same ∙ sym listed.kind in
          let at : kind_at entry.id.offset kinds ≡ Some entry.kind =
          ap (λ (id : FileId). kind_at id.offset kinds) (sym new.is) ∙ kind_is listed.kid.place new.piece new.there
          ∙ ap (λ (t : EntryKind). Some t) kind in
          if_right (entry.id.revision == r.number) (is_kind entry.kind (kind_at entry.id.offset kinds))
          (ap (is_kind entry.kind) at ∙ same_kind entry.kind)
      by (inr old) =
          let older : IsOlder r.number old.placed =
          of_some (IsOlder r.number) (placed_in r.tables.now listed.kid) old.placed old.there (all_older r right.tabled lines listed.kid) in
          let same : old.placed.id.revision ≡ entry.id.revision = ap (λ (id : FileId). id.revision) old.is in
          ap (λ (t : Bool). if t then is_kind entry.kind (kind_at entry.id.offset kinds) else true)
          (ne_eqb entry.id.revision r.number (λ here. omega (arith, older.id, same, here)))

  entries_right : (k : ℕ) (es : List DirectoryEntry) → AreListed r (ids_of (take k pieces)) es → judged_entries r.number kinds es ≡ Ok tt
  entries_right k [] listed = refl
  entries_right k (entry ∷ es) listed =
      ap (λ (t : Bool). if t then judged_entries r.number kinds es else Err BadLine) (entry_right k entry listed.0) ∙ entries_right k es listed.1

  node_right : (k : ℕ) (piece : Piece) → slice_get pieces k ≡ Some piece → judged_node r.number piece.node ≡ Ok tt
  node_right k piece at =
      let o = of r ids pieces right lines facts e bound k piece at in
      let before = made_from r o.node in
      let sources_are = copied (found r.changes.now o.node.path) in
      let older = from_tables (IsOlder r.number) r o.node (all_older r right.tabled lines) in
      let id_older : is_earlier_id r.number (option_map (λ b. b.1.id) before) ≡ true =
      earlier_id r.number (option_map (λ b. b.1.id) before)
      (map_some (λ (id : FileId). id.revision < r.number) (λ b. b.1.id) before (more_some before (λ b is. is.id) older)) in
      let place_older : is_earlier_place r.number (option_map (λ p. source_place p.1) (comes r o.node o.next).copy) ≡ true =
      earlier_place r.number (option_map (λ p. source_place p.1) (comes r o.node o.next).copy)
      (map_some (λ (place : Place). place.revision < r.number) (λ p. source_place p.1) (comes r o.node o.next).copy
      (map_some (λ (p : IdPart × Source). p.1.revision < r.number) (λ source. (counted o.next.revision o.next.copy, source)) sources_are
      (source_found r sources o.node.path (found r.changes.now o.node.path) refl))) in
      subst (λ (p : Piece). judged_node r.number p.node ≡ Ok tt) o.made.is
      (ap (λ (t : Bool). if t then (if is_earlier_place r.number (option_map (λ p. source_place p.1) (comes r o.node o.next).copy) then Ok tt else Err BadLine) else Err Dangling) id_older
      ∙ ap (λ (t : Bool). if t then Ok tt else Err BadLine) place_older)

  piece_right : (k : ℕ) (piece : Piece) → slice_get pieces k ≡ Some piece → judged_piece r.number kinds (file_piece piece) ≡ Ok tt
  unfolding judged_piece
  piece_right k piece at =
      let come = reads r ids pieces right lines facts e bound k piece at in
      ap (λ (j : Judged). j >>= λ x. entries_in (file_piece piece) >>= λ entries. judged_entries r.number kinds entries) (node_right k piece at)
      ∙ (ap (λ (read : Result (List DirectoryEntry) FileFault). read >>= λ entries. judged_entries r.number kinds entries) come.read
      ∙ entries_right k come.entries come.listed)

  pieces_right : judged_pieces r.number kinds all ≡ Ok tt
  pieces_right = all_judged r.number kinds all (λ k piece at.
      let was = was_written pieces k piece at in
      subst (λ (p : FilePiece). judged_piece r.number kinds p ≡ Ok tt) was.is (piece_right was.place was.written was.there))

  pub revision_right : (changes : List FileChange) → ListsChanges r (ids_of pieces) changes → judged_revision r.number all changes ≡ Ok tt
  unfolding judged_revision
  revision_right changes listed =
      ap (λ (j : Judged). j >>= λ x. judged_changes r.number changes) pieces_right ∙ changes_right r (ids_of pieces) changes sources listed

file_bound : (pieces : List Piece) (changes : List FileChange) (root : ℕ) → length (file_bytes pieces changes root) < 2 ^ 64
    → length (pieces_bytes pieces) < 2 ^ 64
file_bound pieces changes root whole =
    let trailer : List ℕ = trailer_bytes (record { root = root; changes = length (pieces_bytes pieces) }) in
    omega (arith, whole, length-append (pieces_bytes pieces ++ changes_bytes changes) trailer, length-append (pieces_bytes pieces) (changes_bytes changes))

pub laid_bound : (r : Revision) (ids : Option NextIds) (file : List ℕ) (after : Option NextIds) (laid : IsLaidOut r ids file after) → length file < 2 ^ 64
    → length (pieces_bytes laid.pieces) < 2 ^ 64
laid_bound r ids file after laid small =
    file_bound laid.pieces laid.changes laid.root.offset (subst (λ (f : List ℕ). length f < 2 ^ 64) laid.file_is small)

pub judged_right : (r : Revision) (ids : Option NextIds) (file : List ℕ) (after : Option NextIds) → IsRightRevision r → AreEarlierLines r.tables.now
    → RevisionFits r ids → SourcesAreEarlier r → (laid : IsLaidOut r ids file after) → length file < 2 ^ 64
    → judged_revision r.number (map file_piece (reverse laid.pieces)) laid.changes ≡ Ok tt
judged_right r ids file after right lines facts sources laid small =
    revision_right r ids laid.pieces right lines facts laid.pieces_are (laid_bound r ids file after laid small) sources laid.changes laid.changes_are
