use Rattle.std.proofs.{Common.{◌∷◌, ◌++◌, [], map}, lemmas.Result.err_from_is_err_and}
use Rattle.wire_edits.specs.declared.editing.EditorCommand.TheVariants.{CloseFile}
use Rattle.drive_rules.specs.Steps.EntryKind.{FileKind}
use Rattle.std.specs.Prelude.{option_copied}
use Rattle.wire_deltas.specs.Texts.{text_or_empty}
use Rattle.drive_sending.specs.Commands.{sent_commands, checksum_sent, property_command}
use Rattle.drive_sending.proofs.Written.{first_part, sent_behind}
use Rattle.drive_sending.proofs.telling.say_file_news.Goals as goal

pub returns-in_err-say_properties : goal.returns-in_err-say_properties
returns-in_err-say_properties g c =
    let p = err_from_is_err_and c.from_residual.result c.from_residual.ensures.1 in
    rw (p.1) (first_part _ (map (property_command FileKind c.args.token.now) c.args.news.now.changes)
    (sent_commands c.args.token.now (text_or_empty (option_copied c.args.basis.before)) c.args.news.now.text ++ CloseFile c.args.token.now (checksum_sent c.args.basis.purpose c.args.news.now.text) ∷ [])
    (c.in_err-say_properties.ensures))

pub returns : goal.returns
returns g c =
    sent_behind _ g.met.S.ReplySink.more c.say_file_end.result _ _ _ (map (property_command FileKind c.args.token.now) c.args.news.now.changes)
    (sent_commands c.args.token.now (text_or_empty (option_copied c.args.basis.before)) c.args.news.now.text ++ CloseFile c.args.token.now (checksum_sent c.args.basis.purpose c.args.news.now.text) ∷ [])
    (c.in_ok-say_properties.ensures) c.say_file_end.ensures
