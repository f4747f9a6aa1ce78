use Rattle.std.proofs.{Common.{rules, sym, subst, ◌∙◌}, lemmas.Result.IfOk-weaker}
use Rattle.reporter.specs.Places.{AllHoldTogether}
use Rattle.drive_sides.specs.{Lines.IsAllKept, Plans.whole}
use Rattle.drive_sides.proofs.SameBeneath.{alike}
use Rattle.drive_sides.proofs.two_trees.TwoTrees.is_alike.Goals as goal

pub returns-in-Some : goal.returns-in-Some
returns-in-Some g c =
    let state = g.R.Repository.content c.args.self.now.view.now in
    let together : AllHoldTogether state.revisions = search rules in
    IfOk-weaker c.is_all_kept.result _ _ (λ all kept said.
    let is = subst (IsAllKept state c.args.self.now.report.now.ask c.in-Some.had) c.requires.led.goal (kept said) in
    alike state (whole c.args.self.now.report.now c.args.self.now.root) c.args.place.now.path c.in-Some.had together
    (rw c.in-Some.is at c.requires.led.had).beneath
    (sym c.has_beneath.ensures ∙ c.if-has_beneath.false)
    is.whole is.token c.requires.under
    (sym c.requires.led.stays ∙ c.if-not-place.false)
    is.same is.lines)
    c.is_all_kept.ensures
