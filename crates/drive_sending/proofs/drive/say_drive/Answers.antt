use Rattle.reporter.proofs.Deciding.{all_trees_hold}
use Rattle.drive_sides.specs.Plans.{whole}
use Rattle.drive_sending.specs.Commands.{drive_of}
use Rattle.drive_sending.proofs.Finished.{drive_may_be_sent, drive_said}
use Rattle.drive_sending.proofs.drive.say_drive.Goals as goal

pub invariant_of-trees : goal.invariant_of-trees
invariant_of-trees g c = record { together = all_trees_hold (g.R.Repository.content c.args.view.now).revisions c.requires.trees }

pub returns : goal.returns
returns g c =
    let v = c.say_planned.ensures in
    drive_said c.say_planned.result (g.S.ReplySink.writes c.args.out.now c.say_planned.new.out) (g.R.Repository.content c.args.view.now)
    (whole c.args.report.now c.args.root)
    (drive_of (g.R.Repository.content c.args.view.now) (whole c.args.report.now c.args.root) v.0)
    (drive_may_be_sent (g.R.Repository.content c.args.view.now) c.args.report.now c.args.root c.deltas_give_the_text.ensures v.0 c.requires.trees c.are_named.ensures.0
    c.are_named.ensures.1
    c.requires.finished (c.in_ok-visitor.ensures.plan v.0 v.1))
    v.2
