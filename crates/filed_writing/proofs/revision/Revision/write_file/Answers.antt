use Rattle.std.proofs.{Common.{◌≡◌, ◌-◌, ◌++◌, [], ℕ, List, Some, true, map, reverse, length, rules, ap, sym, subst, ◌∙◌}, lemmas.List.length-map}
use Rattle.std.specs.Prelude.{option_map, slice_get}
use Rattle.filed_writing.specs.{declared.copies.Origin.Origin, declared.counter.Counter.Counter, Drafts.{comes_of, copy_from}}
use Rattle.filed_writing.specs.Layout.{ListsChanges, all_come, copies_of, next_after_all, nodes_of, pieces_of}
use Rattle.filed_writing.specs.Pieces.{counter_in, ids_after, ids_of, rows_of}
use Rattle.fsfs_text.specs.declared.id.FileId.{FileId}
use Rattle.filed_trees.specs.declared.placed.Placed.{Placed}
use Rattle.fsfs_nodes.specs.{Changes.changes_bytes, Trailers.trailer_bytes}
use Rattle.fsfs.specs.Files.{Piece}
use Rattle.filed_writing.proofs.revision.Revision.write_file.Goals as goal

pub returns : goal.returns
returns c =
    let r = c.args.self in
    let ids = c.args.ids in
    let next : Counter = counter_in ids r.number in
    let begun : c.new-next.result ≡ next = c.new-next.ensures in
    let written = c.in_ok-file.written.items in
    let made = c.in_ok-file.ensures in
    let come : map comes_of c.in_ok-origins.origins.items ≡ all_come r (nodes_of r) next = c.in_ok-origins.ensures.all ∙ ap (all_come r (nodes_of r)) begun in
    let first : map comes_of c.as_slice.result.now ≡ all_come r (nodes_of r) next =
    ap (λ (l : List Origin). map comes_of l) c.as_slice.ensures.value ∙ come in
    let second : map comes_of c.as_slice-2.result.now ≡ all_come r (nodes_of r) next =
    ap (λ (l : List Origin). map comes_of l) c.as_slice-2.ensures.value ∙ come in
    let copies : reverse (map copy_from c.in_ok-roots.roots.items) ≡ copies_of r 0 (nodes_of r) (all_come r (nodes_of r) next) =
    c.in_ok-roots.ensures ∙ ap (copies_of r 0 (nodes_of r)) first in
    let many : length (ids_of made.pieces) ≡ length made.pieces = length-map made.pieces (λ (p : Piece). p.node.id) in
    let root : slice_get written (length written - 1) ≡ Some c.in-Some.root.now = search rules in
    let pieces : pieces_of r [] (nodes_of r) (all_come r (nodes_of r) next) (copies_of r 0 (nodes_of r) (all_come r (nodes_of r) next)) ≡ Some made.pieces =
    sym ((λ i. pieces_of r [] (nodes_of r) (second i) (copies i))) ∙ made.pieces_are in
    let yes : c.has_right_changes.result ≡ true = search rules in
    let right = c.has_right_changes.ensures.0 yes in record {
      laid = record {
        pieces = made.pieces;
        pieces_are = pieces;
        root = c.in-Some.root.now;
        root_is = ap (λ (n : ℕ). slice_get (ids_of made.pieces) (n - 1)) (sym many)
            ∙ ap (λ (l : List FileId). slice_get l (length l - 1)) (sym made.ids_are) ∙ root;
        changes = c.in_ok-changes.changes.items;
        changes_are = subst (λ (ids : List FileId). ListsChanges r ids c.in_ok-changes.changes.items) (c.as_slice-3.ensures.value ∙ made.ids_are) c.in_ok-changes.ensures;
        file_is = c.in_ok-finish_file.ensures ∙ (λ i. made.bytes_are i ++ changes_bytes (c.as_slice-4.ensures.value i)
            ++ trailer_bytes (record { root = c.in-Some.root.now.offset; changes = length (made.bytes_are i) }));
        after_is = c.ids_after.ensures ∙ ap (ids_after ids) (c.in_ok-origins.ensures.next ∙ ap (next_after_all r (nodes_of r)) begun);
      };
      rows = ap (λ o. option_map rows_of o) pieces ∙ ap (λ (l : List Placed). Some l) (sym made.placed_are);
      right = record { nodes = c.in_ok-origins.ensures.right; changes = right.0 };
      earlier = right.1;
    }
