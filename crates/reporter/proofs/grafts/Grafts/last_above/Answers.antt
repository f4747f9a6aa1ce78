use Rattle.std.proofs.Common.{ap, arith, length, sym, subst, ◌+◌}
use Rattle.reporter.specs.Finding.{IsLastAbove, IsLastOf}
use Rattle.reporter.proofs.Finding.{last_all, last_more, next_above, over}
use Rattle.reporter.proofs.grafts.Grafts.last_above.Goals as goal

pub loop-name-preserved : goal.loop-name-preserved
loop-name-preserved c =
    let kept = c.loop-name.invariant in
    let k = c.loop-name.name-index in
    let lt = c.loop-name-test.true in
    let long = ap length c.components-name-items.ensures in (
      next_above c.args.path.now c.components-name-items.result.now c.loop-name.above c.in_ok-above.above k
          c.name-item.result c.in_ok-clone.field-0 c.components-name-items.ensures lt c.name-item.is
          c.in_ok-clone.ensures.cases kept.0 c.in_ok-above.ensures,
      subst (IsLastOf (over c.args.path.now (k + 1)) c.args.self.now c.args.count) (sym c.later-last.ensures)
          (last_more c.args.self.now c.args.count c.args.path.now c.loop-name.above k c.loop-name.last c.last_at.result
          kept.0 kept.1 c.last_at.ensures (omega (lt, long, arith))),
    )

pub returns : goal.returns
returns c =
    let kept = c.loop-name.invariant in
    let k = c.loop-name.name-index in
    let ge = c.loop-name-test.false in
    let end = c.loop-name.auto.name-index-end in
    let long = ap length c.components-name-items.ensures in
    subst (IsLastAbove c.args.path.now c.args.self.now c.args.count) (sym c.later.ensures)
    (last_all c.args.self.now c.args.count c.args.path.now c.loop-name.above k c.loop-name.last c.last_at-2.result
    kept.0 kept.1 c.last_at-2.ensures (omega (ge, end, long, arith)))
