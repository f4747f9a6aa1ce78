use Rattle.std.proofs.Common.{ap, subst, sym, ◌∙◌}
use Rattle.repo_api.specs.Trees.{text_of}
use Rattle.drive_sides.specs.{Known.IsHadAt, Plans.whole}
use Rattle.drive_sides.proofs.Comparing.{none_known, text_known}
use Rattle.drive_sides.proofs.two_trees.TwoTrees.had_text.Goals as goal

pub returns-in-None : goal.returns-in-None
returns-in-None g c scope =
    let state = g.R.Repository.content c.args.self.now.view.now in
    let report = whole c.args.self.now.report.now c.args.self.now.root in
    sym (ap text_of (none_known state report c.args.place.now.path (subst (IsHadAt state report c.args.place.now.path) c.in-None.is c.requires.led.had)))

pub returns-in-Some : goal.returns-in-Some
returns-in-Some g c scope =
    let state = g.R.Repository.content c.args.self.now.view.now in
    let report = whole c.args.self.now.report.now c.args.self.now.root in
    let had = subst (IsHadAt state report c.args.place.now.path) c.in-Some.is c.requires.led.had in
    c.text.ensures ∙ sym (text_known state report c.args.place.now.path c.in-Some.had had scope)
