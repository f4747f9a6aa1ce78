use Rattle.std.proofs.Common.{◌-◌, ◌≤◌, length}
use Rattle.filed_trees.proofs.places.first_from.Given as goal

abbrev pub invariant-loop-low : goal.invariant-loop-low
invariant-loop-low l = l.high ≤ length l.placed

abbrev pub decreases-loop-low : goal.decreases-loop-low
decreases-loop-low l = l.high - l.low
