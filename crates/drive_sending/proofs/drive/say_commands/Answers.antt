use Rattle.std.proofs.{Common.{◌∷◌, ◌++◌, []}, lemmas.Result.err_from_is_err_and}
use Rattle.std.specs.Prelude.{Some}
use Rattle.wire_edits.specs.declared.editing.EditorCommand.TheVariants.{TargetRevision, OpenRoot, CloseEdit}
use Rattle.drive_rules.specs.Steps.EntryKind.{DirectoryKind}
use Rattle.drive_sides.proofs.Existing.{some_visits}
use Rattle.drive_sides.specs.Plans.{whole}
use Rattle.drive_sending.specs.{Commands.body_commands, Tokens.token_of}
use Rattle.drive_sending.proofs.Written.{first_part, sent_behind}
use Rattle.drive_sending.proofs.drive.say_commands.Goals as goal

pub returns-in_err-say_beginning : goal.returns-in_err-say_beginning
returns-in_err-say_beginning g c =
    let p = err_from_is_err_and c.from_residual.result c.from_residual.ensures.1 in
    let v = some_visits (g.R.Repository.content c.args.trees.now.view.now) (whole c.args.trees.now.report.now c.args.trees.now.root) c.args.visitor.now in
    rw (p.1) (
      v.0,
      v.1,
      first_part _ (TargetRevision c.args.trees.now.report.now.ask.revision ∷ OpenRoot (Some c.args.trees.now.root.revision)
          (token_of DirectoryKind 0) ∷ []) (body_commands (g.R.Repository.content c.args.trees.now.view.now)
          (whole c.args.trees.now.report.now c.args.trees.now.root) v.0 ++ CloseEdit ∷ []) (c.in_err-say_beginning.ensures),
    )

pub returns : goal.returns
returns g c =
    let v = c.say_rest.ensures in (
      v.0,
      v.1,
      sent_behind _ g.met.S.ReplySink.more c.say_rest.result _ _ _
          (TargetRevision c.args.trees.now.report.now.ask.revision ∷ OpenRoot (Some c.args.trees.now.root.revision) (token_of DirectoryKind 0) ∷ [])
          (body_commands (g.R.Repository.content c.args.trees.now.view.now) (whole c.args.trees.now.report.now c.args.trees.now.root) v.0 ++ CloseEdit ∷ [])
          (c.in_ok-say_beginning.ensures) v.2,
    )
