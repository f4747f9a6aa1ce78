use Rattle.std.proofs.Common.{ap, subst, sym, ◌∙◌, ◌&&◌, false}
use Rattle.std.specs.Option.{option_map_or}
use Rattle.reporter.specs.{Aims.aim_at, Targets.{client_tree, is_written_anew}}
use Rattle.drive_sides.specs.{Known.IsHadAt, Plans.whole}
use Rattle.drive_sides.proofs.Knowing.{anew_at}
use Rattle.drive_sides.proofs.two_trees.TwoTrees.is_to_be_opened.Goals as goal

pub returns-in-Some : goal.returns-in-Some
returns-in-Some g c =
    let state = g.R.Repository.content c.args.self.now.view.now in
    let report = whole c.args.self.now.report.now c.args.self.now.root in
    let p = c.args.place.now.path in
    let anew = option_map_or (is_written_anew report.ask) (client_tree state report p) false in
    anew_at state report p c.in-Some.had c.is_written_anew.result (subst (IsHadAt state report p) c.in-Some.is c.requires.led.had) c.is_written_anew.ensures
    ∙ sym (ap (λ b. b && ((aim_at state report p).stays && anew)) c.if-not-ask.false
    ∙ ap (λ b. b && anew) (sym c.requires.led.stays ∙ c.if-not-place.false))
