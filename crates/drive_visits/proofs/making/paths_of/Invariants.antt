-- The paths so far are those of the places that were taken.
use Rattle.std.proofs.Common.{◌≡◌, ◌++◌, length}
use Rattle.drive_visits.specs.Knowing.{paths_of}
use Rattle.drive_visits.proofs.making.paths_of.Given as goal

abbrev pub invariant-loop-place : goal.invariant-loop-place
invariant-loop-place g l = l.paths.items ++ paths_of l.left.items ≡ paths_of l.fn.places.items

abbrev pub decreases-loop-place : goal.decreases-loop-place
decreases-loop-place g l = length l.left.items
