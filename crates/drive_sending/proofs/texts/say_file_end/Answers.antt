use Rattle.std.proofs.{Common.{◌∷◌, []}, lemmas.Result.err_from_is_err_and}
use Rattle.wire_edits.specs.declared.editing.EditorCommand.TheVariants.{CloseFile}
use Rattle.std.specs.Prelude.{option_copied}
use Rattle.wire_deltas.specs.Texts.{text_or_empty}
use Rattle.drive_sending.specs.Commands.{sent_commands, checksum_sent}
use Rattle.drive_sending.proofs.Written.{first_part, sent_behind}
use Rattle.drive_sending.proofs.texts.say_file_end.Goals as goal

pub returns-in_err-say_sent : goal.returns-in_err-say_sent
returns-in_err-say_sent g c =
    let p = err_from_is_err_and c.from_residual.result c.from_residual.ensures.1 in
    rw (p.1) (first_part _ (sent_commands c.args.token.now (text_or_empty (option_copied c.args.basis.before)) c.args.text.now) (CloseFile c.args.token.now (checksum_sent c.args.basis.purpose c.args.text.now) ∷ [])
    (c.in_err-say_sent.ensures))

pub returns : goal.returns
returns g c =
    sent_behind _ g.met.S.ReplySink.more c.say_made.result _ _ _ (sent_commands c.args.token.now (text_or_empty (option_copied c.args.basis.before)) c.args.text.now)
    (CloseFile c.args.token.now (checksum_sent c.args.basis.purpose c.args.text.now) ∷ []) (c.in_ok-say_sent.ensures)
    (c.say_made.ensures (CloseFile c.args.token.now (checksum_sent c.args.basis.purpose c.args.text.now)) c.close.ensures)
