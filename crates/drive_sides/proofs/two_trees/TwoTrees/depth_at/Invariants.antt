use Rattle.std.proofs.Common.{drop}
use Rattle.drive_visits.specs.Knowing.{IsKnown}
use Rattle.reporter.specs.Targets.{depth_inherited, drive_limit}
use Rattle.drive_sides.specs.{Known.IsKnownOf, Plans.whole}
use Rattle.drive_sides.proofs.Deep.{IsSoDeep}
use Rattle.drive_sides.proofs.two_trees.TwoTrees.depth_at.Given as goal

abbrev pub invariant-loop-name : goal.invariant-loop-name
invariant-loop-name g l =
    IsSoDeep (depth_inherited l.self.report.now.ask) (drive_limit (g.R.Repository.content l.self.view.now) (whole l.self.report.now l.self.root)) l.self.report.now.ask.target l.path l.here.path l.depth (drop l.name-index l.name-items)
    × IsKnown (IsKnownOf (g.R.Repository.content l.self.view.now) (whole l.self.report.now l.self.root)) l.here
