use Rattle.std.proofs.Common.{◌≡◌, ◌≤◌, ◌-◌, length, take}
use Rattle.block_rules.proofs.way.shared_length.Given as goal

abbrev pub invariant-loop-count : goal.invariant-loop-count
invariant-loop-count l =
    (l.count ≤ length l.path) × (l.count ≤ length l.other) × (take l.count l.path ≡ take l.count l.other)

abbrev pub decreases-loop-count : goal.decreases-loop-count
decreases-loop-count l = length l.path - l.count
