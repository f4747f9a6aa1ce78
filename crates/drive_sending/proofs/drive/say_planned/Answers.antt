use Rattle.std.proofs.{Common.{◌∷◌, [], map}, lemmas.Result.err_from_is_err_and}
use Rattle.drive_sides.proofs.Existing.{some_visits}
use Rattle.drive_sides.specs.Plans.{whole}
use Rattle.drive_sending.proofs.drive.say_planned.Goals as goal
use Rattle.wire_replies.proofs.Parts.{part_first, said_behind}
use Rattle.wire_replies.specs.declared.reply.Reply.TheVariants.{NoLogin, Edit}
use Rattle.drive_sending.specs.Commands.{drive_of}

pub returns-in_err-say_new : goal.returns-in_err-say_new
returns-in_err-say_new g c =
    let p = err_from_is_err_and c.from_residual.result c.from_residual.ensures.1 in
    let v = some_visits (g.R.Repository.content c.args.trees.now.view.now) (whole c.args.trees.now.report.now c.args.trees.now.root) c.args.visitor.now in
    rw (p.1) (
      v.0,
      v.1,
      part_first _ (NoLogin ∷ []) (map Edit (drive_of (g.R.Repository.content c.args.trees.now.view.now)
          (whole c.args.trees.now.report.now c.args.trees.now.root) v.0)) c.in_err-say_new.ensures,
    )

pub returns : goal.returns
returns g c =
    let v = c.say_commands.ensures in (
      v.0,
      v.1,
      said_behind _ g.met.S.ReplySink.more c.say_commands.result _ _ _ (NoLogin ∷ [])
          (map Edit (drive_of (g.R.Repository.content c.args.trees.now.view.now) (whole c.args.trees.now.report.now c.args.trees.now.root) v.0))
          c.in_ok-say_new.ensures v.2,
    )
