use Rattle.std.proofs.Common.{◌≡◌, map, Some, option_and_then, sym, ap, ◌∙◌}
use Rattle.std.specs.{Map.Iter.deref, Prelude.option_copied}
use Rattle.noderevs.specs.Held.{node_at}
use Rattle.noderevs.proofs.Beside.{kept_by, high_at, news_at}
use Rattle.noderevs.proofs.nodes.Nodes.height_with.Goals as goal

pub height_beside-requires-clause-kept : goal.height_beside-requires-clause-kept
height_beside-requires-clause-kept c =
    let look = node_at c.args.self.now in
    let there : option_and_then look c.args.before ≡ Some c.in-Some.node.now = sym (sym (ap option_copied c.in-Some.is) ∙ c.held.ensures) in
    kept_by look c.args.rev c.args.block.now (c.is_next.ensures c.if-is_next.true) c.args.self.now.kids c.args.before c.in-Some.node.now there

pub height_beside-requires-clause-high : goal.height_beside-requires-clause-high
height_beside-requires-clause-high c =
    let look = node_at c.args.self.now in
    let there : option_and_then look c.args.before ≡ Some c.in-Some.node.now = sym (sym (ap option_copied c.in-Some.is) ∙ c.held.ensures) in
    high_at look c.args.self.now.high c.args.before c.in-Some.node.now there

pub height_beside-requires-clause-new : goal.height_beside-requires-clause-new
height_beside-requires-clause-new c =
    let look = node_at c.args.self.now in
    let there : option_and_then look c.args.before ≡ Some c.in-Some.node.now = sym (sym (ap option_copied c.in-Some.is) ∙ c.held.ensures) in
    news_at look c.args.kids.now c.args.before c.in-Some.node.now (map deref c.args.new.now) there c.requires
