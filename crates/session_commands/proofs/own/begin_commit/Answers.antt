use Rattle.machine.specs.Commands.{asked_by, commit_begins, lock_tokens}
use Rattle.session_replies.specs.Telling.{told_before}
use Rattle.session_replies.proofs.Steps.{behind_answered}
use Rattle.session_commands.proofs.own.begin_commit.Goals as goal

pub returns-in-Ok : goal.returns-in-Ok
returns-in-Ok g c =
    let asked = asked_by c.args.command.now (lock_tokens c.args.client.path c.args.command.now.tokens) in
    behind_answered _ g.met.S.ReplySink.more c.begin_edit.result (told_before c.args.preface)
    (commit_begins c.args.options.now c.args.turn.now.env c.args.client asked)
    _ _ _ _ c.in-Ok.ensures c.begin_edit.ensures
