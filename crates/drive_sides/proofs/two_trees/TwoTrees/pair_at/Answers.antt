use Rattle.std.proofs.Common.{rules, sym, ◌∙◌}
use Rattle.reporter.specs.Places.{AllHoldTogether}
use Rattle.drive_sides.specs.Plans.{whole}
use Rattle.drive_sides.proofs.SameBeneath.{pair_given}
use Rattle.drive_sides.proofs.two_trees.TwoTrees.pair_at.Goals as goal

pub returns-in-Some : goal.returns-in-Some
returns-in-Some g c =
    let together : AllHoldTogether (g.R.Repository.content c.args.self.now.view.now).revisions = search rules in
    pair_given (g.R.Repository.content c.args.self.now.view.now) (whole c.args.self.now.report.now c.args.self.now.root) c.args.place.now.path c.in-Some.had together
    (rw c.in-Some.is at c.requires.led.had).beneath
    (sym c.has_beneath.ensures ∙ c.if-has_beneath.false)
    c.requires.under
    (sym c.requires.led.stays ∙ c.if-not-place.false)
    (c.is_of_all.ensures c.if-not-is_of_all.false) c.args.place.now.known.goal c.requires.led.goal
    c.pair_of.result c.pair_of.ensures.whole c.pair_of.ensures.is
