use Rattle.std.proofs.{Common.{◌∷◌, [], refl}, lemmas.Result.err_from_is_err_and}
use Rattle.wire_edits.specs.declared.editing.EditorCommand.TheVariants.{TargetRevision}
use Rattle.replays.specs.Edits.{root_commands}
use Rattle.replays.proofs.Written.{first_part, sent_behind}
use Rattle.replays.proofs.edits.say_commands.Goals as goal

pub returns-in_err-say_command : goal.returns-in_err-say_command
returns-in_err-say_command g c =
    let p = err_from_is_err_and c.from_residual.result c.from_residual.ensures.1 in
    rw (p.1) (first_part (g.S.ReplySink.writes c.args.out.now c.say_command.new.out) (TargetRevision c.args.replay.now.revision ∷ [])
    (root_commands (g.R.Repository.content c.args.replay.now.view.now) c.args.replay.now.ask.now c.args.replay.now.revision)
    (c.in_err-say_command.ensures (TargetRevision c.args.replay.now.revision) refl))

pub returns : goal.returns
returns g c =
    sent_behind g.S.ReplySink.writes g.met.S.ReplySink.more c.say_root.result c.args.out.now c.say_command.new.out c.say_root.new.out (TargetRevision c.args.replay.now.revision ∷ [])
    (root_commands (g.R.Repository.content c.args.replay.now.view.now) c.args.replay.now.ask.now c.args.replay.now.revision)
    (c.in_ok-say_command.ensures (TargetRevision c.args.replay.now.revision) refl) c.say_root.ensures
