-- The node revisions of a revision, each with the node that it is of.
use Rattle.std.proofs.Common.{◌≡◌, ℕ, suc, ◌+◌, List, [], ◌∷◌, ◌++◌, length, Option, Some, None, refl, sym, ap, subst, ◌∙◌, append_assoc, append-nil, arith}
use Rattle.std.proofs.lemmas.List.{length-append, flat_map_more}
use Rattle.std.specs.Prelude.{option_and_then}
use Rattle.noderevs.specs.declared.node_rev.NodeRev.{NodeRev}
use Rattle.fsfs_nodes.specs.declared.current.NextIds.{NextIds}
use Rattle.fsfs_text.specs.declared.representation.Representation.{Representation}
use Rattle.fsfs.specs.Files.{Piece, Names, IsPlaced, ArePlaced, named_line, piece_bytes, pieces_bytes}
use Rattle.filed_writing.specs.{declared.counter.Counter.Counter, declared.revision.Revision.Revision}
use Rattle.filed_writing.specs.Layout.{all_come, comes, content_of, copies_here, copies_of, next_after, nodes_of, piece_of, pieces_here, pieces_of, with_piece}
use Rattle.filed_writing.specs.Pieces.{Brings, Comes, Copy, counter_in, ids_of}

-- a node revision is that of a node, after those in front
pub record IsMade (r : Revision) (front : List Piece) (node : NodeRev) (come : Comes) (copy : Copy) (piece : Piece) : Type 0 where
  pub content : Brings
  pub content_is : content_of r (ids_of front) node come ≡ Some content
  pub is : piece_of r (length (pieces_bytes front)) node come copy content ≡ piece

-- node revisions are those of nodes, one after another
abbrev pub AreMade : Revision → List Piece → List NodeRev → Counter → List Copy → List Piece → Type 0
AreMade r front [] next [] [] = Unit {0}
AreMade r front [] next [] (piece ∷ pieces) = ⊥
AreMade r front [] next (copy ∷ copies) pieces = ⊥
AreMade r front (node ∷ nodes) next [] pieces = ⊥
AreMade r front (node ∷ nodes) next (copy ∷ copies) [] = ⊥
AreMade r front (node ∷ nodes) next (copy ∷ copies) (piece ∷ pieces) =
    IsMade r front node (comes r node next) copy piece
    × AreMade r (front ++ piece ∷ []) nodes (next_after r node next) copies pieces

-- what comes after those in front
pub record Rest (r : Revision) (front : List Piece) (nodes : List NodeRev) (next : Counter) (copies : List Copy) (pieces : List Piece) : Type 0 where
  pub rest : List Piece
  pub is : pieces ≡ front ++ rest
  pub made : AreMade r front nodes next copies rest

with_first : (r : Revision) (front : List Piece) (node : NodeRev) (nodes : List NodeRev) (next : Counter) (copy : Copy) (copies : List Copy) (pieces : List Piece)
    → ((now : List Piece) → pieces_of r now nodes (all_come r nodes (next_after r node next)) copies ≡ Some pieces
    → Rest r now nodes (next_after r node next) copies pieces)
    → (o : Option Brings) → content_of r (ids_of front) node (comes r node next) ≡ o
    → option_and_then (λ content. pieces_of r (with_piece r front node (comes r node next) copy content) nodes (all_come r nodes (next_after r node next)) copies) o ≡ Some pieces
    → Rest r front (node ∷ nodes) next (copy ∷ copies) pieces
with_first r front node nodes next copy copies pieces again None is e = absurd (cc e)
with_first r front node nodes next copy copies pieces again (Some content) is e =
    let piece : Piece = piece_of r (length (pieces_bytes front)) node (comes r node next) copy content in
    let more = again (front ++ piece ∷ []) e in
    record {
      rest = piece ∷ more.rest;
      is = more.is ∙ append_assoc front (piece ∷ []) more.rest;
      made = (record { content = content; content_is = is; is = refl }, more.made);
    }

pub all_made : (r : Revision) (front : List Piece) (nodes : List NodeRev) (next : Counter) (copies : List Copy) (pieces : List Piece)
    → length copies ≡ length nodes → pieces_of r front nodes (all_come r nodes next) copies ≡ Some pieces → Rest r front nodes next copies pieces
all_made r front [] next [] pieces long e = record { rest = []; is = sym (cc e) ∙ sym (append-nil front); made = tt }
all_made r front [] next (copy ∷ copies) pieces long e = absurd (omega (arith, long))
all_made r front (node ∷ nodes) next [] pieces long e = absurd (omega (arith, long))
all_made r front (node ∷ nodes) next (copy ∷ copies) pieces long e =
    with_first r front node nodes next copy copies pieces
    (λ now e. all_made r now nodes (next_after r node next) copies pieces (omega (arith, long)) e)
    (content_of r (ids_of front) node (comes r node next)) refl e

-- each node has its copy
copies_long : (r : Revision) (place : ℕ) (nodes : List NodeRev) (next : Counter) → length (copies_of r place nodes (all_come r nodes next)) ≡ length nodes
copies_long r place [] next = refl
copies_long r place (node ∷ nodes) next = ap suc (copies_long r (place + 1) nodes (next_after r node next))

-- the node revisions of a revision are those of its nodes
pub here_made : (r : Revision) (ids : Option NextIds) (pieces : List Piece) → pieces_here r ids ≡ Some pieces
    → AreMade r [] (nodes_of r) (counter_in ids r.number) (copies_here r ids) pieces
here_made r ids pieces e =
    let next = counter_in ids r.number in
    let all = all_made r [] (nodes_of r) next (copies_here r ids) pieces (copies_long r 0 (nodes_of r) next) e in
    subst (AreMade r [] (nodes_of r) next (copies_here r ids)) (sym all.is) all.made

-- ---- each is where it says

names : (revision offset : ℕ) (new : Option (List ℕ)) (kept : Option Representation) → Names revision offset new (named_line revision offset new kept)
names revision offset None kept = tt
names revision offset (Some body) kept = refl

one_placed : (r : Revision) (front : List Piece) (node : NodeRev) (come : Comes) (copy : Copy) (piece : Piece) → IsMade r front node come copy piece
    → IsPlaced r.number (length (pieces_bytes front)) piece
one_placed r front node come copy piece made =
    let offset = length (pieces_bytes front) in
    subst (IsPlaced r.number offset) made.is (record {
      text = names r.number offset made.content.new made.content.kept;
      properties = names r.number _ _ _;
      own = refl;
      place = refl;
    })

longer : (front : List Piece) (piece : Piece) → length (pieces_bytes (front ++ piece ∷ [])) ≡ length (pieces_bytes front) + length (piece_bytes piece)
longer front piece = ap (λ (b : List ℕ). length b) (sym (flat_map_more piece_bytes [] front piece)) ∙ length-append (pieces_bytes front) (piece_bytes piece)

all_placed : (r : Revision) (front : List Piece) (nodes : List NodeRev) (next : Counter) (copies : List Copy) (pieces : List Piece)
    → AreMade r front nodes next copies pieces → ArePlaced r.number (length (pieces_bytes front)) pieces
all_placed r front [] next [] [] made = tt
all_placed r front [] next [] (piece ∷ pieces) made = absurd made
all_placed r front [] next (copy ∷ copies) pieces made = absurd made
all_placed r front (node ∷ nodes) next [] pieces made = absurd made
all_placed r front (node ∷ nodes) next (copy ∷ copies) [] made = absurd made
all_placed r front (node ∷ nodes) next (copy ∷ copies) (piece ∷ pieces) made = (
  one_placed r front node (comes r node next) copy piece made.0,
  subst (λ (k : ℕ). ArePlaced r.number k pieces) (longer front piece) (all_placed r (front ++ piece ∷ []) nodes (next_after r node next) copies pieces made.1),
)

pub here_placed : (r : Revision) (ids : Option NextIds) (pieces : List Piece) → pieces_here r ids ≡ Some pieces → ArePlaced r.number 0 pieces
here_placed r ids pieces e = all_placed r [] (nodes_of r) (counter_in ids r.number) (copies_here r ids) pieces (here_made r ids pieces e)
