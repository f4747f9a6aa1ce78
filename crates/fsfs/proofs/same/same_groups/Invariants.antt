use Rattle.std.proofs.Common.{◌-◌, ◌≡◌, ◌≤◌, take}
use Rattle.fsfs.proofs.same.same_groups.Given as goal

abbrev pub invariant-loop-count : goal.invariant-loop-count
invariant-loop-count l = (l.count ≤ l.both) × (take l.count l.bytes ≡ take l.count l.others)

abbrev pub decreases-loop-count : goal.decreases-loop-count
decreases-loop-count l = l.both - l.count
