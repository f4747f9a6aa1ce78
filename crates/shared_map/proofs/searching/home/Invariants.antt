use Rattle.std.proofs.Common.{◌≤◌, ◌+◌, ◌-◌, length, take, drop}
use Rattle.shared_map.specs.Entries.{all_entries, IsBetween}
use Rattle.shared_map.proofs.searching.home.Given as goal

abbrev pub invariant-loop-low : goal.invariant-loop-low
invariant-loop-low g l =
    (l.low ≤ l.high) × (l.high ≤ length l.parts - 1)
    × IsBetween l.name (all_entries (take l.low l.parts)) (all_entries (drop (l.high + 1) l.parts))

abbrev pub decreases-loop-low : goal.decreases-loop-low
decreases-loop-low g l = l.high - l.low
