use Rattle.std.proofs.Common.{sym, ◌∙◌}
use Rattle.drive_sides.specs.Plans.{whole}
use Rattle.drive_sides.proofs.Reaching.{whole_as_reported, whole_scope}
use Rattle.drive_sides.proofs.two_trees.TwoTrees.is_of_all.Goals as goal

pub returns-then-asks_for_all : goal.returns-then-asks_for_all
returns-then-asks_for_all g c = λ all q up.
    sym (whole_scope (g.R.Repository.content c.args.self.now.view.now) (whole c.args.self.now.report.now c.args.self.now.root) q
    (sym c.has_excluded.ensures ∙ c.if-has_excluded.false) (sym c.asks_for_all.ensures ∙ c.if-asks_for_all.true) up)

pub returns-else-asks_for_all : goal.returns-else-asks_for_all
returns-else-asks_for_all g c = λ all q up.
    sym (whole_as_reported (g.R.Repository.content c.args.self.now.view.now) (whole c.args.self.now.report.now c.args.self.now.root) q
    (sym c.has_excluded.ensures ∙ c.if-has_excluded.false) (c.follows_whole_report.ensures all) up)
