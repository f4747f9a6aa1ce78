use Rattle.std.proofs.Common.{◌≡◌, ◌++◌, ◌∷◌, [], List, Some, map, reverse, refl, ap, arith, rules, sym, subst, ◌∙◌}
use Rattle.fsfs_text.specs.declared.id.FileId.{FileId}
use Rattle.filed_trees.specs.{Tables.placed_of, declared.placed.Placed.Placed}
use Rattle.filed_writing.specs.{Drafts.{comes_of, copy_from}, Layout.{WritesNode, node_here}}
use Rattle.filed_writing.proofs.Behind.{all_written, one_piece}
use Rattle.filed_writing.proofs.revision.Revision.write_nodes.Goals as goal

pub loop-place-init : goal.loop-place-init
loop-place-init c = record {
  front = [];
  ids_are = c.in_ok-written.ensures.items;
  placed_are = c.in_ok-placed.ensures.items;
  bytes_are = c.new-out.ensures.items;
  rest = refl;
}

pub loop-place-preserved : goal.loop-place-preserved
loop-place-preserved c =
    let r = c.args.self in
    let written = c.loop-place.written.items in
    let place = c.loop-place.place in
    let o = c.index-origins-place.result in
    let node = c.in-Some-Some.node.now in
    let root = c.in-Some-Some.root in
    let mid = c.write.new.out.items in
    let there : node_here r place ≡ Some node = search rules in
    let last : c.loop-place.roots.items ≡ c.pop.new.self.items ++ root ∷ [] = search rules in
    let lines = c.in_ok-node.node in
    let made = c.in_ok-made.made in
    let writes : WritesNode r written c.loop-place.out.items node (comes_of o) (copy_from root) lines mid =
    subst (λ (w : List FileId). WritesNode r w c.loop-place.out.items node (comes_of o) (copy_from root) lines mid) c.as_slice.ensures.value c.in_ok-node.ensures in
    let pushed : c.push.new.self.items ≡ c.loop-place.placed.items ++ made ∷ [] = c.in_ok-push.ensures.items in
    let kept : c.push.new.self.items ≡ c.loop-place.placed.items ++ placed_of lines ∷ [] =
    pushed ∙ ap (λ (p : Placed). c.loop-place.placed.items ++ p ∷ []) c.in_ok-made.ensures in
    one_piece r place node c.args.origins.now o there (omega (arith, c.loop-place-test.true)) c.index-origins-place.is
    c.loop-place.roots.items c.pop.new.self.items root written c.push-in-loop-place.new.self.items c.loop-place.placed.items c.push.new.self.items
    c.loop-place.out.items mid lines _
    last c.in_ok-push-2.ensures.items kept writes c.loop-place.invariant

pub returns : goal.returns
returns c =
    let so_far = c.loop-place.invariant in record {
      pieces = so_far.front;
      pieces_are = sym so_far.rest
          ∙ all_written c.args.self c.loop-place.place c.args.origins.now so_far.front (reverse (map copy_from c.loop-place.roots.items))
          (omega (arith, c.loop-place-test.false));
      bytes_are = so_far.bytes_are;
      ids_are = so_far.ids_are;
      placed_are = so_far.placed_are;
    }
