use Rattle.std.proofs.{Common.{ap, sym, ◌∙◌, ◌&&◌}, lemmas.Result.IfOk-weaker}
use Rattle.std.specs.Prelude.{is_some}
use Rattle.reporter.specs.{Aims.aim_at, Links.is_excluded_at}
use Rattle.drive_sides.specs.Plans.{whole}
use Rattle.drive_sides.proofs.{Knowing.counts_child, Reaching.{was_false, was_true}}
use Rattle.drive_sides.proofs.two_trees.TwoTrees.is_hidden.Goals as goal

pub returns-then-not-holder_at : goal.returns-then-not-holder_at
returns-then-not-holder_at g c =
    let state = g.R.Repository.content c.args.self.now.view.now in
    let report = whole c.args.self.now.report.now c.args.self.now.root in
    let x = c.args.child.now.path in
    sym (ap (λ b. b && (is_some (aim_at state report x).entry && is_excluded_at report.grafts x))
    (counts_child state report c.holder_at.result c.args.place.now.path x c.requires.place.under c.requires.inside c.holder_at.ensures ∙ was_false c.holder_at.result.counts c.if-not-holder_at.true))

pub returns : goal.returns
returns g c =
    let state = g.R.Repository.content c.args.self.now.view.now in
    let report = whole c.args.self.now.report.now c.args.self.now.root in
    let x = c.args.child.now.path in
    IfOk-weaker c.is_excluded_at.result _ _ (λ answer is.
    is
    ∙ sym (ap (λ b. b && (is_some (aim_at state report x).entry && is_excluded_at report.grafts x))
    (counts_child state report c.holder_at.result c.args.place.now.path x c.requires.place.under c.requires.inside c.holder_at.ensures ∙ was_true c.holder_at.result.counts c.if-not-holder_at.false)
    ∙ ap (λ b. b && is_excluded_at report.grafts x)
    (sym (c.is_present.ensures.entry (aim_at state report x).entry c.requires.child.led.kind) ∙ c.if-not-is_present.false)))
    c.is_excluded_at.ensures
