use Rattle.std.proofs.Common.{◌≡◌, ◌&&◌, sym, ap, ◌∙◌, refl}
use Rattle.std.specs.Prelude.{option_copied}
use Rattle.repo_api.specs.States.{trees_in}
use Rattle.reporter.specs.{Aims.aim_of, Targets.client_entries}
use Rattle.drive_sides.specs.Plans.{whole}
use Rattle.drive_sides.proofs.Knowing.{goal_led, goes_led, kind_led, stays_led}
use Rattle.drive_sides.proofs.two_trees.TwoTrees.place_from.Goals.{then-are_of_one_kind+in_ok-stays, else-are_of_one_kind}
use Rattle.drive_sides.proofs.two_trees.TwoTrees.place_from.Goals as goal

pub returns : goal.returns
returns g c =
    let state = g.R.Repository.content c.args.self.now.view.now in
    let report = whole c.args.self.now.report.now c.args.self.now.root in
    let link = option_copied c.in_ok-link.link in
    let old_is = c.kind_if-old.ensures (client_entries state report c.args.path) c.kind_at.ensures in
    let there_is = c.kind_if-there.ensures (trees_in state.revisions report.ask.revision c.in_ok-goal.goal) c.kind.ensures in
    let stays : c.if-are_of_one_kind.stays ≡ (aim_of state report c.args.holder.counts c.args.holder.may_stand c.args.path c.args.own).stays = elim c.if-are_of_one_kind.branch [
      | then-are_of_one_kind+in_ok-stays w ↦
          w.stays-is
          ∙ ap (λ kept. kept && w.in_ok-stays.stays) (sym w.if-are_of_one_kind.true)
          ∙ stays_led state report c.args.holder c.args.path c.args.own c.in_ok-goal.goal link c.kind_if-old.result c.kind_if-there.result c.kind_led-kind.result c.in_ok-link.ensures c.in_ok-goal.ensures there_is old_is c.kind_led-kind.ensures
          c.are_of_one_kind.result w.in_ok-stays.stays c.are_of_one_kind.ensures w.in_ok-stays.ensures
      | else-are_of_one_kind w ↦
          w.stays-is ∙ w.if-are_of_one_kind.false
          ∙ goes_led state report c.args.holder c.args.path c.args.own c.in_ok-goal.goal link c.kind_if-old.result c.kind_if-there.result c.kind_led-kind.result c.in_ok-link.ensures c.in_ok-goal.ensures there_is old_is c.kind_led-kind.ensures
          c.are_of_one_kind.result c.are_of_one_kind.ensures w.if-are_of_one_kind.false
    ] in (
      refl,
      record {
        goal = goal_led state report c.args.holder c.args.path c.args.own c.in_ok-goal.goal link c.kind_if-old.result c.kind_if-there.result c.kind_led-kind.result c.in_ok-link.ensures c.in_ok-goal.ensures there_is old_is c.kind_led-kind.ensures;
        kind = kind_led state report c.args.holder c.args.path c.args.own c.in_ok-goal.goal link c.kind_if-old.result c.kind_if-there.result c.kind_led-kind.result c.in_ok-link.ensures c.in_ok-goal.ensures there_is old_is c.kind_led-kind.ensures;
        had = c.in_ok-had.ensures;
        stays = stays;
      },
    )
