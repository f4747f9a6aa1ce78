use Rattle.std.proofs.Common.{◌≡◌, ◌<◌, ◌≤◌, ◌⊎◌, Some, map, sym, subst, arith}
use Rattle.std.specs.{List.Contains, Map.Iter.deref}
use Rattle.noderevs.specs.{Held.node_at, Nodes.{kid_named, with_block}}
use Rattle.noderevs.proofs.Beside.{by_new, by_old}
use Rattle.noderevs.proofs.nodes.Nodes.height_beside.Goals as goal

pub returns-then-height-node : goal.returns-then-height-node
returns-then-height-node c =
    let before = node_at c.args.self.now in
    let node = c.args.node.now in
    let le : node.height ≤ c.greatest_over-height.result = omega arith in
    by_new before (with_block before c.args.rev c.args.block.now) c.args.kids.now node.kids node.height c.requires.kept c.requires.high
    (map deref c.args.new.now) c.requires.new c.greatest_over-height.result c.greatest_over-height.ensures le

pub returns-then-left-node : goal.returns-then-left-node
returns-then-left-node c =
    let before = node_at c.args.self.now in
    let node = c.args.node.now in
    let le : c.greatest_over-height.result ≤ node.height = omega arith in
    let less : c.greatest_over-left.result < node.height = omega arith in
    by_old before (with_block before c.args.rev c.args.block.now) c.args.kids.now node.kids node.height c.requires.kept c.requires.high
    (map deref c.args.new.now) c.requires.new c.greatest_over-height.result c.greatest_over-height.ensures
    (map deref c.as_slice.result.now)
    (λ name kid named. subst (λ xs. (kid_named c.args.kids.now name ≡ Some kid) ⊎ Contains (map deref xs) (name, kid)) (sym c.as_slice.ensures.value)
    (c.in_ok-gone.ensures.others name kid named))
    c.greatest_over-left.result c.greatest_over-left.ensures less le
