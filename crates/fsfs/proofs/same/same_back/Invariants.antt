use Rattle.std.proofs.Common.{◌-◌, ◌≤◌, length}
use Rattle.fsfs.proofs.same.same_back.Given as goal

abbrev pub invariant-loop-count : goal.invariant-loop-count
invariant-loop-count l = (l.count ≤ length l.bytes) × (l.count ≤ length l.others)

abbrev pub decreases-loop-count : goal.decreases-loop-count
decreases-loop-count l = length l.bytes - l.count
