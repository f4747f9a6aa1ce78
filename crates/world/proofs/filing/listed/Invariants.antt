-- The last ones are put.
use Rattle.std.proofs.Common.{◌≡◌, ◌-◌, drop, length}
use Rattle.std.specs.FinMap.{from_entries}
use Rattle.world.proofs.filing.listed.Given as goal

abbrev pub invariant-loop-k : goal.invariant-loop-k
invariant-loop-k l = l.made ≡ from_entries (drop (length l.locks - l.k) l.locks)
