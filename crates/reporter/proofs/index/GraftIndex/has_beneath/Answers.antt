use Rattle.std.proofs.Common.{sym, ap, ◌∙◌}
use Rattle.reporter.proofs.Finding.{any_below, first_under}
use Rattle.reporter.proofs.index.GraftIndex.has_beneath.Goals as goal

pub returns-in-None : goal.returns-in-None
returns-in-None c =
    sym (any_below c.args.path.now c.args.self.now.newest.entries c.range.ensures.ordered
    ∙ ap (first_under c.args.path.now) (sym (c.range.ensures.between tt) ∙ c.in-None.ensures.steps.0))

pub returns-in-Some : goal.returns-in-Some
returns-in-Some c =
    c.is_at_or_under.ensures.value
    ∙ sym (any_below c.args.path.now c.args.self.now.newest.entries c.range.ensures.ordered
    ∙ ap (first_under c.args.path.now) (sym (c.range.ensures.between tt) ∙ c.in-Some.ensures.steps))
