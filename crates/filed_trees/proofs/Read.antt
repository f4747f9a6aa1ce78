-- What a revision file says of its node revisions.
use Rattle.std.proofs.Common.{◌≡◌, ℕ, zero, suc, ◌==◌, ◌&&◌, Bool, true, false, List, [], ◌∷◌, length, Option, Some, None, option_and_then, Result, Ok, Err}
use Rattle.std.proofs.{Common.{drop, refl, sym, ap, subst, ◌∙◌, arith, rules, ◌<◌, ◌≤◌}, lemmas.Bool.{false≢true, eqb-true}}
use Rattle.std.proofs.lemmas.Option.{none-some, same_Some}
use Rattle.std.specs.{Prelude.{slice_get, slice_index_or, slice_set, replicate, nat_lt, codes, if◌then◌else◌}, Result.result_ok}
use Rattle.fsfs_text.specs.{declared.fault.FileFault.FileFault, declared.fault.FileFault.TheVariants.Dangling, Reading.◌>>=◌, declared.id.FileId.FileId}
use Rattle.fsfs_text.specs.{declared.representation.Representation.Representation, Ids.id_of, Places.place_of, Representations.representation_of}
use Rattle.fsfs_nodes.specs.Headers.{Line, block_of, field, optional, value_of}
use Rattle.fsfs_nodes.specs.{Nodes.{standing, id_line, own_id, node_of, node_from, node_at, kind_of, count_of, path_of}, declared.node.FileNode.FileNode}
use Rattle.fsfs_nodes.specs.{declared.entries.DirectoryEntry.DirectoryEntry, Bodies.body_at, Changes.changes_of, Trailers.trailer_of}
use Rattle.fsfs_nodes.specs.declared.change.FileChange.{FileChange}
use Rattle.fsfs.specs.Pieces.{new_body, some_of, piece_at, entries_in, marked, step_of, before, pieces_below, pieces_of, part_behind, revision_of, is_before}
use Rattle.fsfs.specs.declared.piece.FilePiece.{FilePiece}
use Rattle.filed_trees.specs.{Pieces.{RevisionBytes, same_number, same_id, if_named, piece_in, body_at_line}, Comparing.{CameWith, IsHere, IsOfLast}}

abbrev is_ok : {X E : Type 0} → Result X E → Bool
is_ok (Ok x) = true
is_ok (Err e) = false

err_ok : {X E : Type 0} (x : X) (e : E) → Err e ≡ Ok x → ⊥
err_ok x e h = false≢true (ap is_ok h)

abbrev pub the : {X E : Type 0} → X → Result X E → X
the d (Ok x) = x
the d (Err e) = d

pub same_Ok : {X E : Type 0} (x y : X) → ◌≡◌ {A = Result X E} (Ok x) (Ok y) → x ≡ y
same_Ok x y e = ap (the x) e

-- what was read first, and then
ok_then : {A B P : Type 0} (r : Result A FileFault) (f : A → Result B FileFault) (y : B) → (r >>= f) ≡ Ok y
    → ((x : A) → r ≡ Ok x → f x ≡ Ok y → P) → P
ok_then (Ok x) f y e k = k x refl e
ok_then (Err fault) f y e k = absurd (err_ok y fault e)

-- the node revision at an offset is of that revision and offset
record IsNodeAt (revision offset : ℕ) (node : FileNode) : Type 0 where
  of_revision : node.id.revision ≡ revision
  at_offset : node.id.offset ≡ offset

both : (a b : Bool) → (a && b) ≡ true → (a ≡ true) × (b ≡ true)
both true b h = (refl, h)
both false b h = absurd (false≢true h)

stands : (revision offset : ℕ) (o : Option FileId) (id : FileId) → standing revision offset o ≡ Ok id → (id.revision ≡ revision) × (id.offset ≡ offset)
stands revision offset None id e = absurd (err_ok id Dangling e)
stands revision offset (Some other) id e = by ((other.revision == revision) && (other.offset == offset)) refl e
  where
    by : (b : Bool) → ((other.revision == revision) && (other.offset == offset)) ≡ b → (if b then Ok other else Err Dangling) ≡ Ok id
        → (id.revision ≡ revision) × (id.offset ≡ offset)
    by false h e = absurd (err_ok id Dangling e)
    by true h e =
        let two = both (other.revision == revision) (other.offset == offset) h in
        let same : other ≡ id = same_Ok {E = FileFault} other id e in
        (sym (ap (λ (i : FileId). i.revision) same) ∙ eqb-true other.revision revision two.0, sym (ap (λ (i : FileId). i.offset) same) ∙ eqb-true other.offset offset two.1)

own_id_stands : (revision offset : ℕ) (bytes : List ℕ) (id : FileId) → own_id revision offset bytes ≡ Ok id → (id.revision ≡ revision) × (id.offset ≡ offset)
unfolding own_id
own_id_stands revision offset bytes id e = stands revision offset (id_line bytes) id e

node_id : (id : FileId) (lines : List Line) (node : FileNode) → node_of id lines ≡ Ok node → node.id ≡ id
unfolding node_of
node_id id lines node e =
    ok_then (field kind_of (value_of (codes "type") lines)) _ node e (λ kind is_kind e.
    ok_then (optional id_of (value_of (codes "pred") lines)) _ node e (λ pred is_pred e.
    ok_then (field count_of (value_of (codes "count") lines)) _ node e (λ count is_count e.
    ok_then (optional representation_of (value_of (codes "text") lines)) _ node e (λ text is_text e.
    ok_then (optional representation_of (value_of (codes "props") lines)) _ node e (λ props is_props e.
    ok_then (field path_of (value_of (codes "cpath") lines)) _ node e (λ path is_path e.
    ok_then (optional place_of (value_of (codes "copyfrom") lines)) _ node e (λ from is_from e.
    ok_then (optional place_of (value_of (codes "copyroot") lines)) _ node e (λ root is_root e.
    sym (ap (λ (n : FileNode). n.id) (same_Ok {E = FileFault} (record {
      id = id;
      kind = kind;
      predecessor = pred;
      count = count;
      text = text;
      properties = props;
      path = path;
      copyfrom = from;
      copyroot = root;
    }) node e))))))))))

node_stands : (revision offset : ℕ) (bytes : List ℕ) (node : FileNode) → node_at revision bytes offset ≡ Ok node → IsNodeAt revision offset node
unfolding node_at
node_stands revision offset bytes node e = by (nat_lt (length bytes) offset) (drop offset bytes) e
  where
    by : (b : Bool) (rest : List ℕ) → (if b then Err Dangling else node_from revision offset rest) ≡ Ok node → IsNodeAt revision offset node
    by true rest e = absurd (err_ok node Dangling e)
    by false rest e = ok_then (own_id revision offset rest) _ node e (λ id is_id e. ok_then (block_of rest) _ node e (λ lines is_lines e.
        let two = own_id_stands revision offset rest id is_id in
        let same : node.id ≡ id = node_id id lines node e in
        record {
          of_revision = ap (λ (i : FileId). i.revision) same ∙ two.0;
          at_offset = ap (λ (i : FileId). i.offset) same ∙ two.1;
        }))

same_number_refl : (n : ℕ) → (n == n) ≡ true
same_number_refl n = search (rules, arith)

same_numbers : (o : Option ℕ) → same_number o o ≡ true
same_numbers None = refl
same_numbers (Some n) = same_number_refl n

pub same_id_refl : (id : FileId) → same_id id id ≡ true
same_id_refl id = rw (same_number_refl id.node.number, same_numbers id.node.revision, same_number_refl id.copy.number, same_numbers id.copy.revision, same_number_refl id.revision, same_number_refl id.offset) refl

-- what came with it
came : (files : RevisionBytes) (revision : ℕ) (file : List ℕ) (line : Option Representation) (new : Option (List ℕ))
    → slice_get files revision ≡ Some file → new_body revision file line ≡ Ok new → CameWith files revision line new
unfolding body_at_line
came files revision file line new at read l body is of_it brought =
    let named : new_body revision file (Some l) ≡ Ok (Some body) = ap (new_body revision file) (sym is) ∙ read ∙ ap Ok brought in
    let here : some_of (body_at file l) ≡ Ok (Some body) =
    sym (ap (λ b. if b then some_of (body_at file l) else Ok None) (ap (λ (n : ℕ). n == revision) of_it ∙ same_number_refl revision)) ∙ named in
    ap (λ o. option_and_then (λ f. result_ok (body_at f l)) o) (ap (slice_get files) of_it ∙ at)
    ∙ by (body_at file l) here
  where
    by : (r : Result (List ℕ) FileFault) → some_of r ≡ Ok (Some body) → result_ok r ≡ Some body
    by (Err fault) e = absurd (err_ok (Some body) fault e)
    by (Ok b) e = same_Ok {E = FileFault} (Some b) (Some body) e

no_body : (r : Result (List ℕ) FileFault) → some_of r ≡ Ok None → ⊥
no_body (Ok body) e = none-some body (sym (same_Ok {E = FileFault} (Some body) None e))
no_body (Err fault) e = err_ok None fault e

-- and it came with a line of this revision alone
here : (revision : ℕ) (file : List ℕ) (line : Option Representation) (new : Option (List ℕ))
    → new_body revision file line ≡ Ok new → IsHere revision line new
here revision file None new read = sym (same_Ok {E = FileFault} None new read)
here revision file (Some l) new read = by (l.revision == revision) refl new read
  where
    by : (b : Bool) → (l.revision == revision) ≡ b → (o : Option (List ℕ))
        → (if b then some_of (body_at file l) else Ok None) ≡ Ok o → IsHere revision (Some l) o
    by true same None e = absurd (no_body (body_at file l) e)
    by true same (Some body) e = eqb-true l.revision revision same
    by false other None e = λ is. false≢true (sym other ∙ ap (λ (n : ℕ). n == revision) is ∙ same_number_refl revision)
    by false other (Some body) e = absurd (none-some body (same_Ok {E = FileFault} None (Some body) e))

-- a node revision that was read at some offset of the file is that of its id
found : (files : RevisionBytes) (revision : ℕ) (file : List ℕ) (offset : ℕ) (piece : FilePiece)
    → slice_get files revision ≡ Some file → piece_at revision file offset ≡ Ok piece
    → piece.node.id.revision ≡ revision → piece.node.id.offset ≡ offset → piece_in files piece.node.id ≡ Some piece
unfolding piece_in
found files revision file offset piece at read of_revision at_offset =
    ap (λ o. option_and_then (λ f. option_and_then (if_named piece.node.id) (result_ok (piece_at piece.node.id.revision f piece.node.id.offset))) o)
    (ap (slice_get files) of_revision ∙ at)
    ∙ ap (λ r. option_and_then (if_named piece.node.id) (result_ok r))
    (ap (λ (n : ℕ). piece_at n file piece.node.id.offset) of_revision ∙ ap (piece_at revision file) at_offset ∙ read)
    ∙ ap (λ b. if b then Some piece else None) (same_id_refl piece.node.id)

record Parts (revision : ℕ) (file : List ℕ) (offset : ℕ) (piece : FilePiece) : Type 0 where
  of_revision : piece.node.id.revision ≡ revision
  at_offset : piece.node.id.offset ≡ offset
  text : new_body revision file piece.node.text ≡ Ok piece.text
  properties : new_body revision file piece.node.properties ≡ Ok piece.properties

parts : (revision : ℕ) (file : List ℕ) (offset : ℕ) (piece : FilePiece) → piece_at revision file offset ≡ Ok piece → Parts revision file offset piece
unfolding piece_at
parts revision file offset piece e =
    ok_then (node_at revision file offset) _ piece e (λ node is_node e. ok_then (new_body revision file node.text) _ piece e (λ text is_text e.
    ok_then (new_body revision file node.properties) _ piece e (λ properties is_properties e.
    let same : ◌≡◌ {A = FilePiece} (record { text = text; properties = properties; node = node }) piece = same_Ok {E = FileFault} _ piece e in
    let s = node_stands revision offset file node is_node in
    record {
      of_revision = ap (λ (p : FilePiece). p.node.id.revision) (sym same) ∙ s.of_revision;
      at_offset = ap (λ (p : FilePiece). p.node.id.offset) (sym same) ∙ s.at_offset;
      text = ap (λ (p : FilePiece). new_body revision file p.node.text) (sym same) ∙ is_text ∙ ap (λ (p : FilePiece). Ok p.text) same;
      properties = ap (λ (p : FilePiece). new_body revision file p.node.properties) (sym same) ∙ is_properties ∙ ap (λ (p : FilePiece). Ok p.properties) same;
    })))

piece_of_last : (files : RevisionBytes) (revision : ℕ) (file : List ℕ) (offset : ℕ) (piece : FilePiece)
    → slice_get files revision ≡ Some file → piece_at revision file offset ≡ Ok piece → IsOfLast files revision piece
piece_of_last files revision file offset piece at read =
    let p = parts revision file offset piece read in
    record {
      there = found files revision file offset piece at read p.of_revision p.at_offset;
      revision_is = p.of_revision;
      text = came files revision file piece.node.text piece.text at p.text;
      properties = came files revision file piece.node.properties piece.properties at p.properties;
      text_here = here revision file piece.node.text piece.text p.text;
      properties_here = here revision file piece.node.properties piece.properties p.properties;
    }

-- each node revision that was read was read at an offset
abbrev AreAtOffsets : ℕ → List ℕ → List FilePiece → Type 0
AreAtOffsets revision file pieces =
    (k : ℕ) (piece : FilePiece) → slice_get pieces k ≡ Some piece → (offset : ℕ) × (piece_at revision file offset ≡ Ok piece)

first_of_step : (revision : ℕ) (file : List ℕ) (offset : ℕ) (wanted : List Bool) (step : FilePiece × List Bool)
    → step_of revision file offset wanted ≡ Ok step → piece_at revision file offset ≡ Ok step.0
unfolding step_of
first_of_step revision file offset wanted step e =
    ok_then (piece_at revision file offset) _ step e (λ piece is_piece e. ok_then (entries_in piece) _ step e (λ entries is_entries e.
    ok_then (marked revision offset entries wanted) _ step e (λ more is_more e.
    is_piece ∙ ap (λ (s : FilePiece × List Bool). Ok s.0) (same_Ok {E = FileFault} (piece, more) step e))))

behind : (revision : ℕ) (file : List ℕ) (offset : ℕ) (first : FilePiece) (r : Result (List FilePiece) FileFault) (pieces : List FilePiece)
    → piece_at revision file offset ≡ Ok first → ((ps : List FilePiece) → r ≡ Ok ps → AreAtOffsets revision file ps)
    → before first r ≡ Ok pieces → AreAtOffsets revision file pieces
behind revision file offset first (Err fault) pieces at rest e = absurd (err_ok pieces fault e)
behind revision file offset first (Ok ps) pieces at rest e =
    subst (AreAtOffsets revision file) (same_Ok {E = FileFault} (first ∷ ps) pieces e) by
  where
    by : AreAtOffsets revision file (first ∷ ps)
    by zero piece is = (offset, at ∙ ap Ok (same_Some first piece is))
    by (suc k) piece is = rest ps refl k piece is

below : (revision : ℕ) (file : List ℕ) (end : ℕ) (wanted : List Bool) (pieces : List FilePiece)
    → pieces_below revision file end wanted ≡ Ok pieces → AreAtOffsets revision file pieces
below revision file zero wanted pieces e = subst (AreAtOffsets revision file) (same_Ok {E = FileFault} [] pieces e) (λ k piece is. absurd (none-some piece is))
below revision file (suc offset) wanted pieces e =
    by (slice_index_or wanted offset false) (λ marks ps. below revision file offset marks ps) e
  where
    by : (b : Bool) → ((marks : List Bool) (ps : List FilePiece) → pieces_below revision file offset marks ≡ Ok ps → AreAtOffsets revision file ps)
        → (if b then (step_of revision file offset wanted >>= λ step. before step.0 (pieces_below revision file offset step.1))
        else pieces_below revision file offset wanted) ≡ Ok pieces → AreAtOffsets revision file pieces
    by false again e = again wanted pieces e
    by true again e = ok_then (step_of revision file offset wanted) _ pieces e (λ step is_step e.
        behind revision file offset step.0 (pieces_below revision file offset step.1) pieces (first_of_step revision file offset wanted step is_step)
        (λ ps is. again step.1 ps is) e)

pieces_at_offsets : (revision : ℕ) (file : List ℕ) (root : ℕ) (pieces : List FilePiece) → pieces_of revision file root ≡ Ok pieces → AreAtOffsets revision file pieces
unfolding pieces_of
pieces_at_offsets revision file root pieces e = by (nat_lt root (length file)) e
  where
    by : (b : Bool) → (if b then pieces_below revision file (suc root) (slice_set (replicate (suc root) false) root true) else Err Dangling) ≡ Ok pieces
        → AreAtOffsets revision file pieces
    by false e = absurd (err_ok pieces Dangling e)
    by true e = below revision file (suc root) (slice_set (replicate (suc root) false) root true) pieces e

all_at_offsets : (revision : ℕ) (file : List ℕ) (said : List FilePiece × List FileChange) → revision_of revision file ≡ Ok said → AreAtOffsets revision file said.0
unfolding revision_of
all_at_offsets revision file said e =
    ok_then (trailer_of file) _ said e (λ ends is_ends e. ok_then (pieces_of revision file ends.1.root) _ said e (λ pieces is_pieces e.
    ok_then (part_behind ends.1.changes ends.0) _ said e (λ part is_part e. ok_then (changes_of part) _ said e (λ changes is_changes e.
    subst (AreAtOffsets revision file) (ap (λ (s : List FilePiece × List FileChange). s.0) (same_Ok {E = FileFault} (pieces, changes) said e))
    (pieces_at_offsets revision file ends.1.root pieces is_pieces)))))

pub pieces_of_last : (files : RevisionBytes) (revision : ℕ) (file : List ℕ) (pieces : List FilePiece) (changes : List FileChange)
    → slice_get files revision ≡ Some file → revision_of revision file ≡ Ok (pieces, changes)
    → (k : ℕ) (piece : FilePiece) → slice_get pieces k ≡ Some piece → IsOfLast files revision piece
pieces_of_last files revision file pieces changes at read k piece is =
    let a = all_at_offsets revision file (pieces, changes) read k piece is in
    piece_of_last files revision file a.0 piece at a.1

-- ---- offsets

-- offsets fall from below an end
abbrev Falls : ℕ → List FilePiece → Type 0
Falls end [] = Unit {0}
Falls end (piece ∷ pieces) = (piece.node.id.offset < end) × Falls piece.node.id.offset pieces

falls_from : (low high : ℕ) (pieces : List FilePiece) → low ≤ high → Falls low pieces → Falls high pieces
falls_from low high [] le falls = tt
falls_from low high (piece ∷ pieces) le falls = let under = falls.0 in (omega (arith, under, le), falls.1)

falls_behind : (revision : ℕ) (file : List ℕ) (offset : ℕ) (first : FilePiece) (r : Result (List FilePiece) FileFault) (pieces : List FilePiece)
    → piece_at revision file offset ≡ Ok first → ((ps : List FilePiece) → r ≡ Ok ps → Falls offset ps)
    → before first r ≡ Ok pieces → Falls (suc offset) pieces
falls_behind revision file offset first (Err fault) pieces at rest e = absurd (err_ok pieces fault e)
falls_behind revision file offset first (Ok ps) pieces at rest e =
    let same : first.node.id.offset ≡ offset = (parts revision file offset first at).at_offset in
    subst (Falls (suc offset)) (same_Ok {E = FileFault} (first ∷ ps) pieces e)
    (omega (arith, same), subst (λ n. Falls n ps) (sym same) (rest ps refl))

falls_below : (revision : ℕ) (file : List ℕ) (end : ℕ) (wanted : List Bool) (pieces : List FilePiece)
    → pieces_below revision file end wanted ≡ Ok pieces → Falls end pieces
falls_below revision file zero wanted pieces e = subst (Falls 0) (same_Ok {E = FileFault} [] pieces e) tt
falls_below revision file (suc offset) wanted pieces e =
    by (slice_index_or wanted offset false) (λ marks ps. falls_below revision file offset marks ps) e
  where
    by : (b : Bool) → ((marks : List Bool) (ps : List FilePiece) → pieces_below revision file offset marks ≡ Ok ps → Falls offset ps)
        → (if b then (step_of revision file offset wanted >>= λ step. before step.0 (pieces_below revision file offset step.1))
        else pieces_below revision file offset wanted) ≡ Ok pieces → Falls (suc offset) pieces
    by false again e = falls_from offset (suc offset) pieces (omega arith) (again wanted pieces e)
    by true again e = ok_then (step_of revision file offset wanted) _ pieces e (λ step is_step e.
        falls_behind revision file offset step.0 (pieces_below revision file offset step.1) pieces (first_of_step revision file offset wanted step is_step)
        (λ ps is. again step.1 ps is) e)

falls_of : (revision : ℕ) (file : List ℕ) (root : ℕ) (pieces : List FilePiece) → pieces_of revision file root ≡ Ok pieces → Falls (suc root) pieces
unfolding pieces_of
falls_of revision file root pieces e = by (nat_lt root (length file)) e
  where
    by : (b : Bool) → (if b then pieces_below revision file (suc root) (slice_set (replicate (suc root) false) root true) else Err Dangling) ≡ Ok pieces
        → Falls (suc root) pieces
    by false e = absurd (err_ok pieces Dangling e)
    by true e = falls_below revision file (suc root) (slice_set (replicate (suc root) false) root true) pieces e

under_end : (end : ℕ) (pieces : List FilePiece) (k : ℕ) (piece : FilePiece) → Falls end pieces → slice_get pieces k ≡ Some piece
    → piece.node.id.offset < end
under_end end [] k piece falls at = absurd (none-some piece at)
under_end end (first ∷ pieces) zero piece falls at = subst (λ (p : FilePiece). p.node.id.offset < end) (same_Some first piece at) falls.0
under_end end (first ∷ pieces) (suc k) piece falls at =
    let under = falls.0 in let lower = under_end first.node.id.offset pieces k piece falls.1 at in omega (arith, under, lower)

later_is_lower : (end : ℕ) (pieces : List FilePiece) (j k : ℕ) (p q : FilePiece) → Falls end pieces → j < k
    → slice_get pieces j ≡ Some p → slice_get pieces k ≡ Some q → q.node.id.offset < p.node.id.offset
later_is_lower end [] j k p q falls lt at_j at_k = absurd (none-some p at_j)
later_is_lower end (first ∷ pieces) j zero p q falls lt at_j at_k = absurd (omega (arith, lt))
later_is_lower end (first ∷ pieces) zero (suc k) p q falls lt at_j at_k =
    subst (λ (x : FilePiece). q.node.id.offset < x.node.id.offset) (same_Some first p at_j) (under_end first.node.id.offset pieces k q falls.1 at_k)
later_is_lower end (first ∷ pieces) (suc j) (suc k) p q falls lt at_j at_k =
    later_is_lower first.node.id.offset pieces j k p q falls.1 (omega (arith, lt)) at_j at_k

-- the node revisions of a file stand at falling offsets
pub offsets_fall : (revision : ℕ) (file : List ℕ) (pieces : List FilePiece) (changes : List FileChange) → revision_of revision file ≡ Ok (pieces, changes)
    → (j k : ℕ) (p q : FilePiece) → j < k → slice_get pieces j ≡ Some p → slice_get pieces k ≡ Some q → q.node.id.offset < p.node.id.offset
unfolding revision_of
offsets_fall revision file pieces changes e =
    ok_then (trailer_of file) _ (pieces, changes) e (λ ends is_ends e. ok_then (pieces_of revision file ends.1.root) _ (pieces, changes) e (λ ps is_pieces e.
    ok_then (part_behind ends.1.changes ends.0) _ (pieces, changes) e (λ part is_part e. ok_then (changes_of part) _ (pieces, changes) e (λ cs is_changes e.
    let same : ps ≡ pieces = ap (λ (s : List FilePiece × List FileChange). s.0) (same_Ok {E = FileFault} (ps, cs) (pieces, changes) e) in
    λ j k p q lt at_j at_k. later_is_lower (suc ends.1.root) pieces j k p q (subst (Falls (suc ends.1.root)) same (falls_of revision file ends.1.root ps is_pieces)) lt at_j at_k))))

-- ---- entries

-- each of these entries lies before an offset
abbrev pub LieBefore : ℕ → ℕ → List DirectoryEntry → Type 0
LieBefore revision offset [] = Unit {0}
LieBefore revision offset (entry ∷ entries) = (is_before revision offset entry.id ≡ true) × LieBefore revision offset entries

marked_before : (revision offset : ℕ) (entries : List DirectoryEntry) (wanted more : List Bool) → marked revision offset entries wanted ≡ Ok more
    → LieBefore revision offset entries
marked_before revision offset [] wanted more e = tt
marked_before revision offset (entry ∷ entries) wanted more e =
    by (is_before revision offset entry.id) refl (λ marks m. marked_before revision offset entries marks m) e
  where
    rest : (c : Bool) → ((marks m : List Bool) → marked revision offset entries marks ≡ Ok m → LieBefore revision offset entries)
        → (if c then marked revision offset entries (slice_set wanted entry.id.offset true) else marked revision offset entries wanted) ≡ Ok more
        → LieBefore revision offset entries
    rest true again e = again _ more e
    rest false again e = again wanted more e

    by : (b : Bool) → is_before revision offset entry.id ≡ b
        → ((marks m : List Bool) → marked revision offset entries marks ≡ Ok m → LieBefore revision offset entries)
        → (if b then (if entry.id.revision == revision then marked revision offset entries (slice_set wanted entry.id.offset true)
        else marked revision offset entries wanted) else Err Dangling) ≡ Ok more
        → (is_before revision offset entry.id ≡ true) × LieBefore revision offset entries
    by true is again e = (is, rest (entry.id.revision == revision) again e)
    by false is again e = absurd (err_ok more Dangling e)

-- the new entries of a node revision lie before it
abbrev pub HasEarlierEntries : ℕ → FilePiece → Type 0
HasEarlierEntries revision piece =
    (es : List DirectoryEntry) × ((entries_in piece ≡ Ok es) × LieBefore revision piece.node.id.offset es)

entries_of_step : (revision : ℕ) (file : List ℕ) (offset : ℕ) (wanted : List Bool) (step : FilePiece × List Bool)
    → step_of revision file offset wanted ≡ Ok step → HasEarlierEntries revision step.0
unfolding step_of
entries_of_step revision file offset wanted step e =
    ok_then (piece_at revision file offset) _ step e (λ piece is_piece e. ok_then (entries_in piece) _ step e (λ entries is_entries e.
    ok_then (marked revision offset entries wanted) _ step e (λ more is_more e.
    let same : piece ≡ step.0 = ap (λ (s : FilePiece × List Bool). s.0) (same_Ok {E = FileFault} (piece, more) step e) in
    let at : piece.node.id.offset ≡ offset = (parts revision file offset piece is_piece).at_offset in
    subst (HasEarlierEntries revision) same
    (entries, (is_entries, subst (λ n. LieBefore revision n entries) (sym at) (marked_before revision offset entries wanted more is_more))))))

abbrev HaveEarlierEntries : ℕ → List FilePiece → Type 0
HaveEarlierEntries revision pieces = (k : ℕ) (piece : FilePiece) → slice_get pieces k ≡ Some piece → HasEarlierEntries revision piece

entries_behind : (revision : ℕ) (first : FilePiece) (r : Result (List FilePiece) FileFault) (pieces : List FilePiece)
    → HasEarlierEntries revision first → ((ps : List FilePiece) → r ≡ Ok ps → HaveEarlierEntries revision ps)
    → before first r ≡ Ok pieces → HaveEarlierEntries revision pieces
entries_behind revision first (Err fault) pieces has rest e = absurd (err_ok pieces fault e)
entries_behind revision first (Ok ps) pieces has rest e =
    subst (HaveEarlierEntries revision) (same_Ok {E = FileFault} (first ∷ ps) pieces e) by
  where
    by : HaveEarlierEntries revision (first ∷ ps)
    by zero piece is = subst (HasEarlierEntries revision) (same_Some first piece is) has
    by (suc k) piece is = rest ps refl k piece is

entries_below : (revision : ℕ) (file : List ℕ) (end : ℕ) (wanted : List Bool) (pieces : List FilePiece)
    → pieces_below revision file end wanted ≡ Ok pieces → HaveEarlierEntries revision pieces
entries_below revision file zero wanted pieces e =
    subst (HaveEarlierEntries revision) (same_Ok {E = FileFault} [] pieces e) (λ k piece is. absurd (none-some piece is))
entries_below revision file (suc offset) wanted pieces e =
    by (slice_index_or wanted offset false) (λ marks ps. entries_below revision file offset marks ps) e
  where
    by : (b : Bool) → ((marks : List Bool) (ps : List FilePiece) → pieces_below revision file offset marks ≡ Ok ps → HaveEarlierEntries revision ps)
        → (if b then (step_of revision file offset wanted >>= λ step. before step.0 (pieces_below revision file offset step.1))
        else pieces_below revision file offset wanted) ≡ Ok pieces → HaveEarlierEntries revision pieces
    by false again e = again wanted pieces e
    by true again e = ok_then (step_of revision file offset wanted) _ pieces e (λ step is_step e.
        entries_behind revision step.0 (pieces_below revision file offset step.1) pieces (entries_of_step revision file offset wanted step is_step)
        (λ ps is. again step.1 ps is) e)

entries_from_root : (revision : ℕ) (file : List ℕ) (root : ℕ) (pieces : List FilePiece) → pieces_of revision file root ≡ Ok pieces
    → HaveEarlierEntries revision pieces
unfolding pieces_of
entries_from_root revision file root pieces e = by (nat_lt root (length file)) e
  where
    by : (b : Bool) → (if b then pieces_below revision file (suc root) (slice_set (replicate (suc root) false) root true) else Err Dangling) ≡ Ok pieces
        → HaveEarlierEntries revision pieces
    by false e = absurd (err_ok pieces Dangling e)
    by true e = entries_below revision file (suc root) (slice_set (replicate (suc root) false) root true) pieces e

pub entries_lie_before : (revision : ℕ) (file : List ℕ) (pieces : List FilePiece) (changes : List FileChange) → revision_of revision file ≡ Ok (pieces, changes)
    → (k : ℕ) (piece : FilePiece) → slice_get pieces k ≡ Some piece → HasEarlierEntries revision piece
unfolding revision_of
entries_lie_before revision file pieces changes e =
    ok_then (trailer_of file) _ (pieces, changes) e (λ ends is_ends e. ok_then (pieces_of revision file ends.1.root) _ (pieces, changes) e (λ ps is_pieces e.
    ok_then (part_behind ends.1.changes ends.0) _ (pieces, changes) e (λ part is_part e. ok_then (changes_of part) _ (pieces, changes) e (λ cs is_changes e.
    subst (HaveEarlierEntries revision) (ap (λ (s : List FilePiece × List FileChange). s.0) (same_Ok {E = FileFault} (ps, cs) (pieces, changes) e))
    (entries_from_root revision file ends.1.root ps is_pieces)))))
