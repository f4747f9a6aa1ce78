use Rattle.std.proofs.Common.{◌-◌, ◌≤◌}
use Rattle.fsfs.proofs.same.same_groups_at_end.Given as goal

abbrev pub invariant-loop-count : goal.invariant-loop-count
invariant-loop-count l = l.count ≤ l.both

abbrev pub decreases-loop-count : goal.decreases-loop-count
decreases-loop-count l = l.both - l.count
