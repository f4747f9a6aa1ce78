use Rattle.std.proofs.Common.{◌≤◌, ◌-◌, length}
use Rattle.shared_map.proofs.remaking.rows_before.Given as goal

abbrev pub invariant-loop-low : goal.invariant-loop-low
invariant-loop-low g l = (l.low ≤ l.high) × (l.high ≤ length l.rows)

abbrev pub decreases-loop-low : goal.decreases-loop-low
decreases-loop-low g l = l.high - l.low
