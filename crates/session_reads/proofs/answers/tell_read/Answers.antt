use Rattle.machine.specs.{Commands.read_replies, declared.phase.Phase.TheVariants.Serving}
use Rattle.session_replies.specs.Telling.{told_before}
use Rattle.session_replies.proofs.Steps.{stood}
use Rattle.session_reads.proofs.Listed.{listed}
use Rattle.session_reads.proofs.answers.tell_read.Goals as goal

pub returns : goal.returns
returns g c =
    listed g.A.RepoAccess.rules (read_replies c.args.client c.args.command.now) _ _ c.args.turn.now.env c.args.client (told_before c.args.preface)
    c.say_read_behind-said.ensures.said.0 _ c.stands.result _
    (stood c.stands.result (Serving c.args.client) c.say_read_behind-said.result c.args.turn.now.env _ _ _ c.stands.ensures c.say_read_behind-said.ensures.env
    c.say_read_behind-said.ensures.said.1)
