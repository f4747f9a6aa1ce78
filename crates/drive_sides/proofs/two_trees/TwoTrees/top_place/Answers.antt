use Rattle.std.proofs.Common.{true, sym, ap, subst, ◌∙◌}
use Rattle.std.specs.Prelude.{IfOk}
use Rattle.svnpath.specs.PathLaws.{under_itself}
use Rattle.reporter.specs.Aims.{aim_of}
use Rattle.reporter.proofs.Aiming.{aim_target}
use Rattle.drive_sides.specs.{Known.IsLedFrom, Plans.whole, declared.leading.Holder.Holder}
use Rattle.drive_sides.proofs.Knowing.{known_by}
use Rattle.drive_sides.proofs.two_trees.TwoTrees.top_place.Goals as goal

-- to the target all counts, and all may stand there
abbrev all : Holder
all = record { counts = true; may_stand = true }

pub returns : goal.returns
returns g c =
    let state = g.R.Repository.content c.args.self.now.view.now in
    let report = whole c.args.self.now.report.now c.args.self.now.root in
    known_by state report all c.in_ok-own.own report.ask.target c.place_from.result (under_itself report.ask.target)
    (ap (aim_of state report true true report.ask.target) c.in_ok-own.ensures.cases ∙ sym (aim_target state report))
    (subst (λ p. IfOk c.place_from.result (IsLedFrom state report all c.in_ok-own.own p)) (c.in_ok-path.ensures.cases ∙ c.as_path.ensures.path) c.place_from.ensures)
