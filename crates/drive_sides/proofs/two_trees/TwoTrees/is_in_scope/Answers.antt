use Rattle.std.proofs.Common.{sym, ap, ◌∙◌}
use Rattle.svnpath.specs.Paths.{is_at_or_under}
use Rattle.drive_sides.proofs.two_trees.TwoTrees.is_in_scope.Goals as goal

pub returns-then-is_of_all : goal.returns-then-is_of_all
returns-then-is_of_all g c =
    sym (c.is_of_all.ensures c.if-is_of_all.true c.args.path.now
    (ap (is_at_or_under c.args.path.now) (sym c.as_path.ensures.path) ∙ sym c.is_at_or_under.ensures.value ∙ c.if-not-is_at_or_under.false))
