use Rattle.std.proofs.{Common.{[], ◌∷◌, sym}, lemmas.Result.err_from_is_err_and}
use Rattle.wire_replies.proofs.Parts.{part_first, said_behind}
use Rattle.machine.specs.Readings.{file_told, text_told}
use Rattle.session_reads.proofs.files.say_file_at.Goals as goal

pub returns-in_err-say_told-in-Some : goal.returns-in_err-say_told-in-Some
returns-in_err-say_told-in-Some g c =
    let p = err_from_is_err_and c.from_residual.result c.from_residual.ensures.1 in
    let told = file_told (g.R.Repository.content c.args.view.now) c.args.command.now.wants_properties c.args.asked.place.now c.in-Some.text.now in
    rw (p.1) (rw (sym c.in-Some.ensures) (part_first _ (told ∷ []) (text_told c.args.command.now.wants_contents c.in-Some.text.now)
    (c.in_err-say_told-in-Some.ensures told c.file_told-told.ensures)))

pub returns-in_ok-say_told-in-Some : goal.returns-in_ok-say_told-in-Some
returns-in_ok-say_told-in-Some g c =
    let told = file_told (g.R.Repository.content c.args.view.now) c.args.command.now.wants_properties c.args.asked.place.now c.in-Some.text.now in
    rw (sym c.in-Some.ensures) (said_behind _ g.met.S.ReplySink.more c.say_wanted.result _ _ _ (told ∷ [])
    (text_told c.args.command.now.wants_contents c.in-Some.text.now)
    (c.in_ok-say_told-in-Some.ensures told c.file_told-told.ensures) c.say_wanted.ensures)
