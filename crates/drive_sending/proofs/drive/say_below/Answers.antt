use Rattle.std.proofs.{Common.{◌∷◌, []}, lemmas.Result.err_from_is_err_and}
use Rattle.wire_edits.specs.declared.editing.EditorCommand.TheVariants.{CloseDirectory}
use Rattle.drive_rules.specs.Steps.EntryKind.{DirectoryKind}
use Rattle.drive_sides.specs.Plans.{whole}
use Rattle.drive_sending.specs.{Commands.plan_commands, Tokens.token_of}
use Rattle.drive_sending.proofs.Written.{first_part, sent_behind}
use Rattle.drive_sending.proofs.drive.say_below.Goals as goal

pub returns-in_err-say_visits : goal.returns-in_err-say_visits
returns-in_err-say_visits g c =
    let p = err_from_is_err_and c.from_residual.result c.from_residual.ensures.1 in
    let v = c.in_err-say_visits.ensures in
    rw (p.1) (v.0, v.1, first_part _ (plan_commands (g.R.Repository.content c.args.trees.now.view.now) (whole c.args.trees.now.report.now c.args.trees.now.root) 0 v.0) (CloseDirectory (token_of DirectoryKind 0) ∷ []) v.2)

pub returns : goal.returns
returns g c =
    let v = c.in_ok-say_visits.ensures in (
      v.0,
      v.1,
      sent_behind _ g.met.S.ReplySink.more c.say_close.result _ _ _
          (plan_commands (g.R.Repository.content c.args.trees.now.view.now) (whole c.args.trees.now.report.now c.args.trees.now.root) 0 v.0)
          (CloseDirectory (token_of DirectoryKind 0) ∷ []) v.2 c.say_close.ensures,
    )
