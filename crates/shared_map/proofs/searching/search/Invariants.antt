use Rattle.std.proofs.Common.{◌≤◌, ◌-◌, length, take, drop}
use Rattle.shared_map.specs.Entries.{values, IsBetween}
use Rattle.shared_map.proofs.searching.search.Given as goal

abbrev pub invariant-loop-low : goal.invariant-loop-low
invariant-loop-low g l =
    (l.low ≤ l.high) × (l.high ≤ length (values l.part))
    × IsBetween l.name (take l.low (values l.part)) (drop l.high (values l.part))

abbrev pub decreases-loop-low : goal.decreases-loop-low
decreases-loop-low g l = l.high - l.low
