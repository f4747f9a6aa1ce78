use Rattle.std.proofs.Common.{sym, ap, subst, ◌∙◌}
use Rattle.svnpath.specs.Paths.{is_at_or_under}
use Rattle.drive_sides.specs.{Depths.Reaches, Plans.whole, declared.reach.Reach.Reach}
use Rattle.drive_sides.proofs.Deep.{reaches}
use Rattle.drive_sides.proofs.two_trees.TwoTrees.reach.Goals as goal

pub returns : goal.returns
returns g c =
    subst (λ (r : Reach). Reaches r (g.R.Repository.content c.args.self.now.view.now) (whole c.args.self.now.report.now c.args.self.now.root) c.args.path.now) (sym c.reach_of.ensures)
    (reaches (g.R.Repository.content c.args.self.now.view.now) (whole c.args.self.now.report.now c.args.self.now.root) c.args.path.now c.in_ok-depth.depth
    (ap (is_at_or_under c.args.path.now) (sym c.as_path.ensures.path) ∙ sym c.is_at_or_under.ensures.value ∙ c.if-not-is_at_or_under.false)
    c.in_ok-depth.ensures)
