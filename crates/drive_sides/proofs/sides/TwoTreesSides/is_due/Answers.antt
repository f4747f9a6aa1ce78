use Rattle.std.proofs.Common.{sym, ◌∙◌}
use Rattle.drive_sides.specs.Plans.{whole}
use Rattle.drive_sides.proofs.Comparing.{outside_is_same}
use Rattle.drive_sides.proofs.sides.TwoTreesSides.is_due.Goals as goal

pub returns-then-not-branch : goal.returns-then-not-branch
returns-then-not-branch g c =
    outside_is_same (g.R.Repository.content c.args.self.now.view.now) (whole c.args.self.now.report.now c.args.self.now.root) c.args.place.now.path
    (sym c.in_ok-is_in_scope.ensures ∙ c.if-not-branch.true)
