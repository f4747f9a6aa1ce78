use Rattle.std.proofs.{Common.{◌∷◌, [], map}, lemmas.Result.err_from_is_err_and}
use Rattle.wire_replies.specs.declared.reply.Reply.TheVariants as replies
use Rattle.wire_replies.proofs.Parts.{part_first, said_behind}
use Rattle.replays.specs.Edits.{edit_commands}
use Rattle.replays.proofs.edits.say_edit.Goals as goal

pub returns-in_err-say_commands : goal.returns-in_err-say_commands
returns-in_err-say_commands g c =
    let p = err_from_is_err_and c.from_residual-in_err-say_commands.result c.from_residual-in_err-say_commands.ensures.1 in
    rw (p.1) (part_first (g.S.ReplySink.writes c.args.out.now c.say_commands.new.out)
    (map replies.Edit (edit_commands (g.R.Repository.content c.args.replay.now.view.now) c.args.replay.now.ask.now c.args.replay.now.revision)) (replies.FinishReplay ∷ [])
    c.in_err-say_commands.ensures)

pub returns : goal.returns
returns g c =
    said_behind g.S.ReplySink.writes g.met.S.ReplySink.more c.say_new.result c.args.out.now c.say_commands.new.out c.say_new.new.out
    (map replies.Edit (edit_commands (g.R.Repository.content c.args.replay.now.view.now) c.args.replay.now.ask.now c.args.replay.now.revision)) (replies.FinishReplay ∷ [])
    c.in_ok-say_commands.ensures c.say_new.ensures
