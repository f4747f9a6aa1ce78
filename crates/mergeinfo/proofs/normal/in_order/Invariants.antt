use Rattle.mergeinfo.proofs.Sweeping.{IsSweptOver}
use Rattle.mergeinfo.proofs.normal.in_order.Given as goal

abbrev pub invariant-loop-range : goal.invariant-loop-range
invariant-loop-range l = IsSweptOver l.ranges l.range-items l.range-index l.sweep
