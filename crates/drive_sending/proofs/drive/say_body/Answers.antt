use Rattle.std.proofs.{Common.{◌∷◌, ◌++◌, []}, lemmas.Result.err_from_is_err_and}
use Rattle.wire_edits.specs.declared.editing.EditorCommand.TheVariants.{CloseDirectory}
use Rattle.drive_rules.specs.Steps.EntryKind.{DirectoryKind}
use Rattle.drive_sides.proofs.Existing.{some_visits}
use Rattle.drive_sides.specs.Plans.{whole}
use Rattle.drive_sending.specs.{Commands.{root_commands, plan_commands}, Tokens.token_of}
use Rattle.drive_sending.proofs.Written.{first_part, sent_behind}
use Rattle.drive_sending.proofs.drive.say_body.Goals as goal

pub returns-in_err-say_root : goal.returns-in_err-say_root
returns-in_err-say_root g c =
    let p = err_from_is_err_and c.from_residual.result c.from_residual.ensures.1 in
    let v = some_visits (g.R.Repository.content c.args.trees.now.view.now) (whole c.args.trees.now.report.now c.args.trees.now.root) c.args.visitor.now in
    rw (p.1) (
      v.0,
      v.1,
      first_part _ (root_commands (g.R.Repository.content c.args.trees.now.view.now)
          (whole c.args.trees.now.report.now c.args.trees.now.root)) (plan_commands (g.R.Repository.content c.args.trees.now.view.now)
          (whole c.args.trees.now.report.now c.args.trees.now.root) 0 v.0 ++ CloseDirectory (token_of DirectoryKind 0) ∷ []) (c.in_err-say_root.ensures),
    )

pub returns : goal.returns
returns g c =
    let v = c.say_below.ensures in (
      v.0,
      v.1,
      sent_behind _ g.met.S.ReplySink.more c.say_below.result _ _ _
          (root_commands (g.R.Repository.content c.args.trees.now.view.now) (whole c.args.trees.now.report.now c.args.trees.now.root))
          (plan_commands (g.R.Repository.content c.args.trees.now.view.now) (whole c.args.trees.now.report.now c.args.trees.now.root) 0 v.0
          ++ CloseDirectory (token_of DirectoryKind 0) ∷ []) (c.in_ok-say_root.ensures) v.2,
    )
