-- Node revisions written one behind another.
use Rattle.std.proofs.Common.{◌≡◌, ◌+◌, ◌<◌, ◌≤◌, ℕ, List, [], ◌∷◌, ◌++◌, Option, Some, map, reverse, drop, get_or, length, refl, ap, sym, ◌∙◌}
use Rattle.std.proofs.lemmas.List.{at_drop_more, at_drop_all, flat_map_more, map-append, reverse-append}
use Rattle.std.specs.Prelude.{option_and_then}
use Rattle.noderevs.specs.declared.node_rev.NodeRev.{NodeRev}
use Rattle.fsfs_text.specs.declared.id.FileId.{FileId}
use Rattle.fsfs_nodes.specs.declared.node.FileNode.{FileNode}
use Rattle.filed_trees.specs.{Tables.placed_of, declared.placed.Placed.Placed}
use Rattle.fsfs.specs.Files.{Piece, piece_bytes, pieces_bytes}
use Rattle.filed_writing.specs.{declared.copies.CopyRoot.CopyRoot, declared.copies.Origin.Origin, declared.revision.Revision.Revision}
use Rattle.filed_writing.specs.{Drafts.{comes_of, copy_from}, Layout.{WritesNode, content_of, node_here, nodes_of, piece_of, pieces_of, with_piece}}
use Rattle.filed_writing.specs.Pieces.{Brings, Comes, Copy, ids_of, rows_of}
use Rattle.filed_writing.proofs.Places.{from_here}

-- what is written so far, and behind it what comes of the others
pub record IsSoFar (r : Revision) (nodes : List NodeRev) (comes : List Comes) (copies : List Copy) (whole : Option (List Piece))
    (ids : List FileId) (placed : List Placed) (bytes : List ℕ) : Type 0 where
  pub front : List Piece
  pub ids_are : ids ≡ ids_of front
  pub placed_are : placed ≡ rows_of front
  pub bytes_are : bytes ≡ pieces_bytes front
  pub rest : pieces_of r front nodes comes copies ≡ whole

module _ (r : Revision) (m : ℕ) (node : NodeRev) (origins : List Origin) (o : Origin) (there : node_here r m ≡ Some node)
    (lt : m < length origins) (is : o ≡ get_or origins m o) where
  pub one_piece : (roots left : List CopyRoot) (root : CopyRoot) (written now : List FileId) (placed rows : List Placed) (out new : List ℕ) (lines : FileNode) (whole : Option (List Piece))
      → roots ≡ left ++ root ∷ [] → now ≡ written ++ lines.id ∷ [] → rows ≡ placed ++ placed_of lines ∷ []
      → WritesNode r written out node (comes_of o) (copy_from root) lines new
      → IsSoFar r (drop m (nodes_of r)) (map comes_of (drop m origins)) (reverse (map copy_from roots)) whole written placed out
      → IsSoFar r (drop (m + 1) (nodes_of r)) (map comes_of (drop (m + 1) origins)) (reverse (map copy_from left)) whole now rows new
  one_piece roots left root written now placed rows out new lines whole last pushed kept writes before =
      let come = comes_of o in
      let copy = copy_from root in
      let front = before.front in
      let ns : List NodeRev = drop (m + 1) (nodes_of r) in
      let cs : List Comes = map comes_of (drop (m + 1) origins) in
      let ks : List Copy = reverse (map copy_from left) in
      let piece : Piece = piece_of r (length (pieces_bytes front)) node come copy writes.content in
      let same : piece_of r (length out) node come copy writes.content ≡ piece =
      ap (λ (b : List ℕ). piece_of r (length b) node come copy writes.content) before.bytes_are in
      let lines_are : lines ≡ piece.node = writes.writes.0 ∙ ap (λ (p : Piece). p.node) same in
      let there_now : content_of r (ids_of front) node come ≡ Some writes.content =
      ap (λ (w : List FileId). content_of r w node come) (sym before.ids_are) ∙ writes.content_is in
      let back : reverse (map copy_from roots) ≡ copy ∷ ks =
      ap (λ (l : List CopyRoot). reverse (map copy_from l)) last
      ∙ (ap (λ (l : List Copy). reverse l) (map-append copy_from left (root ∷ [])) ∙ reverse-append (map copy_from left) (copy ∷ [])) in
      let all : map comes_of (drop m origins) ≡ come ∷ cs =
      at_drop_more (map comes_of) origins m o lt ∙ ap (λ (x : Origin). comes_of x ∷ cs) (sym is) in record {
        front = front ++ piece ∷ [];
        ids_are = pushed ∙ (λ i. before.ids_are i ++ ((lines_are i).id ∷ [])) ∙ sym (map-append (λ (p : Piece). p.node.id) front (piece ∷ []));
        placed_are = kept ∙ (λ i. before.placed_are i ++ (placed_of (lines_are i) ∷ []))
            ∙ sym (map-append (λ (p : Piece). placed_of p.node) front (piece ∷ []));
        bytes_are = writes.writes.1 ∙ (λ i. before.bytes_are i ++ piece_bytes (same i)) ∙ flat_map_more piece_bytes [] front piece;
        rest = sym (ap (λ (b : Option Brings). option_and_then (λ content. pieces_of r (with_piece r front node come copy content) ns cs ks) b) there_now)
            ∙ sym ((λ i. pieces_of r front (from_here r m node there i) (all i) (back i))) ∙ before.rest;
      }

-- none is left
none_left : (r : Revision) (front : List Piece) (nodes : List NodeRev) (copies : List Copy) → pieces_of r front nodes [] copies ≡ Some front
none_left r front [] copies = refl
none_left r front (node ∷ nodes) copies = refl

pub all_written : (r : Revision) (m : ℕ) (origins : List Origin) (front : List Piece) (copies : List Copy) → length origins ≤ m
    → pieces_of r front (drop m (nodes_of r)) (map comes_of (drop m origins)) copies ≡ Some front
all_written r m origins front copies past =
    ap (λ (cs : List Comes). pieces_of r front (drop m (nodes_of r)) cs copies) (at_drop_all (map comes_of) origins m past)
    ∙ none_left r front (drop m (nodes_of r)) copies
