-- So far nothing has left the scope, and what is known of the path is so.
use Rattle.std.proofs.Common.{drop}
use Rattle.drive_visits.specs.Knowing.{IsKnown}
use Rattle.reporter.specs.Targets.{counted_entries, depth_inherited, drive_limit, is_hidden, target_entries}
use Rattle.drive_sides.specs.{Known.IsKnownOf, Plans.whole}
use Rattle.drive_sides.proofs.Reaching.{IsSoFar}
use Rattle.drive_sides.proofs.two_trees.TwoTrees.stays_in_scope.Given as goal

abbrev pub invariant-loop-name : goal.invariant-loop-name
invariant-loop-name g l =
    IsSoFar (is_hidden (g.R.Repository.content l.self.view.now) (whole l.self.report.now l.self.root)) (depth_inherited l.self.report.now.ask) (drive_limit (g.R.Repository.content l.self.view.now) (whole l.self.report.now l.self.root)) (counted_entries (g.R.Repository.content l.self.view.now) (whole l.self.report.now l.self.root)) (target_entries (g.R.Repository.content l.self.view.now) (whole l.self.report.now l.self.root)) l.self.report.now.ask.target l.path l.here.path l.depth (drop l.name-index l.name-items)
    × IsKnown (IsKnownOf (g.R.Repository.content l.self.view.now) (whole l.self.report.now l.self.root)) l.here
