-- Whatever is left of the other paths, with the places so far it is left of all; and the other paths are in the directory.
use Rattle.std.proofs.Common.{List, ◌++◌, length}
use Rattle.std.specs.Prelude.{All}
use Rattle.svnpath.specs.Paths.{PathValue}
use Rattle.drive_visits.specs.{Knowing.{AreKnown, paths_of}, Walks.{IsChild, LeavesUnlike}}
use Rattle.drive_sides.specs.{Known.IsKnownOf, Plans.{drive_trees, whole}}
use Rattle.drive_sides.proofs.two_trees.TwoTrees.unlike_places.Given as goal

abbrev pub invariant-loop-path : goal.invariant-loop-path
invariant-loop-path g l =
    ((rest : List PathValue) → LeavesUnlike (drive_trees (g.R.Repository.content l.self.view.now) (whole l.self.report.now l.self.root)) l.left.items rest
    → LeavesUnlike (drive_trees (g.R.Repository.content l.self.view.now) (whole l.self.report.now l.self.root)) l.fn.paths.items (paths_of l.places.items ++ rest))
    × AreKnown (IsKnownOf (g.R.Repository.content l.self.view.now) (whole l.self.report.now l.self.root)) l.places.items
    × All (IsChild l.place.path) l.left.items

abbrev pub decreases-loop-path : goal.decreases-loop-path
decreases-loop-path g l = length l.left.items
