use Rattle.std.proofs.{Common.{◌∷◌, [], refl}, lemmas.Result.err_from_is_err_and}
use Rattle.wire_edits.specs.declared.editing.EditorCommand.TheVariants.{CloseEdit}
use Rattle.drive_sides.specs.Plans.{whole}
use Rattle.drive_sending.specs.Commands.{body_commands}
use Rattle.drive_sending.proofs.Written.{first_part, sent_behind}
use Rattle.drive_sending.proofs.drive.say_rest.Goals as goal

pub returns-in_err-say_body : goal.returns-in_err-say_body
returns-in_err-say_body g c =
    let p = err_from_is_err_and c.from_residual.result c.from_residual.ensures.1 in
    let v = c.in_err-say_body.ensures in
    rw (p.1) (v.0, v.1, first_part _ (body_commands (g.R.Repository.content c.args.trees.now.view.now) (whole c.args.trees.now.report.now c.args.trees.now.root) v.0) (CloseEdit ∷ []) v.2)

pub returns : goal.returns
returns g c =
    let v = c.in_ok-say_body.ensures in (
      v.0,
      v.1,
      sent_behind _ g.met.S.ReplySink.more c.say_made.result _ _ _
          (body_commands (g.R.Repository.content c.args.trees.now.view.now) (whole c.args.trees.now.report.now c.args.trees.now.root) v.0) (CloseEdit ∷ [])
          v.2 (c.say_made.ensures (CloseEdit) refl),
    )
