-- The visits so far are said, those that are left may come behind them, and what the visitor holds is known.
use Rattle.std.proofs.Common.{◌≤◌}
use Rattle.drive_visits.specs.Knowing.{HoldsKnown}
use Rattle.drive_sides.specs.{Known.IsKnownOf, Plans.whole}
use Rattle.drive_sending.proofs.Visited.{HasSaid}
use Rattle.drive_sending.proofs.visits.say_visits.Given as goal

abbrev pub invariant-loop : goal.invariant-loop
invariant-loop g l =
    ((l.around ≤ l.counter) × HoldsKnown (IsKnownOf (g.R.Repository.content l.trees.view.now) (whole l.trees.report.now l.trees.root)) l.visitor)
    × HasSaid (g.R.Repository.content l.trees.view.now) (whole l.trees.report.now l.trees.root) g.S.ReplySink.writes l.fn.visitor l.visitor l.fn.out l.out l.around
