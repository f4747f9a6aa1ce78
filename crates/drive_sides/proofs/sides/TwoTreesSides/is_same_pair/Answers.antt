use Rattle.std.proofs.{Common.rules, lemmas.Result.IfOk-weaker}
use Rattle.reporter.specs.Places.{AllHoldTogether}
use Rattle.drive_sides.specs.Plans.{whole}
use Rattle.drive_sides.proofs.SameBeneath.{same_pair}
use Rattle.drive_sides.proofs.sides.TwoTreesSides.is_same_pair.Goals as goal

pub returns-in-Some-pair_at : goal.returns-in-Some-pair_at
returns-in-Some-pair_at g c =
    let state = g.R.Repository.content c.args.self.now.view.now in
    let together : AllHoldTogether state.revisions = search rules in
    IfOk-weaker c.are_one_pair.result _ _ (λ one same said.
    same_pair state (whole c.args.self.now.report.now c.args.self.now.root) c.args.place.now.path c.args.other.now.path c.in-Some.one c.in-Some-pair_at.two together
    c.requires.one.under c.requires.other.under
    (rw c.in-Some.is at c.pair_at.ensures) (rw c.in-Some-pair_at.is at c.pair_at-2.ensures) (same said))
    c.are_one_pair.ensures
