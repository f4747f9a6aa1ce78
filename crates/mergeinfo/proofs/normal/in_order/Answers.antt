use Rattle.std.proofs.{Common.{refl, arith}, lemmas.Result.IfOk-weaker}
use Rattle.mergeinfo.proofs.Sweeping.{swept_none, swept_more, swept_whole, in_order_like}
use Rattle.mergeinfo.proofs.normal.in_order.Goals as goal

pub loop-range-init : goal.loop-range-init
loop-range-init c =
    swept_none _ _ _ _ c.as_slice-range-items.ensures.value c.in_ok-sorted.ensures.same c.in_ok-sorted.ensures.sorted c.new-sweep.ensures

pub loop-range-preserved : goal.loop-range-preserved
loop-range-preserved c = swept_more _ _ _ _ _ _ _ c.loop-range-test.true refl c.in_ok-take.ensures c.loop-range.invariant

pub returns : goal.returns
returns c =
    IfOk-weaker c.finish.result _ _ (λ v f. in_order_like _ _ _ c.loop-range.invariant.moved f)
    (c.finish.ensures c.as_slice-range-items.result.now (swept_whole _ _ _ _ (omega (arith, c.loop-range-test.false)) c.loop-range.invariant))
