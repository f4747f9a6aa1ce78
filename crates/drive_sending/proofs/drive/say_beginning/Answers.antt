use Rattle.std.proofs.{Common.{◌∷◌, [], refl}, lemmas.Result.err_from_is_err_and}
use Rattle.std.specs.Prelude.{Some}
use Rattle.wire_edits.specs.declared.editing.EditorCommand.TheVariants.{TargetRevision, OpenRoot}
use Rattle.drive_rules.specs.Steps.EntryKind.{DirectoryKind}
use Rattle.drive_sending.specs.Tokens.{token_of}
use Rattle.drive_sending.proofs.Written.{first_part, sent_behind}
use Rattle.drive_sending.proofs.drive.say_beginning.Goals as goal

pub returns-in_err-say_made : goal.returns-in_err-say_made
returns-in_err-say_made g c =
    let p = err_from_is_err_and c.from_residual.result c.from_residual.ensures.1 in
    rw (p.1) (first_part _ (TargetRevision c.args.revision ∷ []) (OpenRoot (Some c.args.root.revision) (token_of DirectoryKind 0) ∷ [])
    (c.in_err-say_made.ensures (TargetRevision c.args.revision) refl))

pub returns : goal.returns
returns g c =
    sent_behind _ g.met.S.ReplySink.more c.say_made-2.result _ _ _ (TargetRevision c.args.revision ∷ [])
    (OpenRoot (Some c.args.root.revision) (token_of DirectoryKind 0) ∷ []) (c.in_ok-say_made.ensures (TargetRevision c.args.revision) refl)
    (c.say_made-2.ensures (OpenRoot (Some c.args.root.revision) (token_of DirectoryKind 0)) c.open_root.ensures)
