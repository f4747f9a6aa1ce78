use Rattle.std.proofs.Common.{[], ◌∷◌, refl, subst}
use Rattle.wire_replies.specs.declared.reply.Reply.TheVariants.{Login}
use Rattle.machine.specs.{Answers.says, declared.phase.Phase.TheVariants.LoggingIn}
use Rattle.session_replies.proofs.Steps.{AnsweredWith, stood}
use Rattle.session_commands.proofs.asking.ask_for_login.Goals as goal

pub returns : goal.returns
returns g c =
    subst (λ offered. AnsweredWith c.stands.result c.args.turn.now.env (g.S.ReplySink.writes c.args.turn.now.out c.say_login-said.new.out)
    (says c.args.turn.now.env (LoggingIn c.args.login) (Login offered c.args.options.now.name ∷ [])))
    c.offer-offered.ensures
    (stood c.stands.result (LoggingIn c.args.login) c.say_login-said.result c.args.turn.now.env c.args.turn.now.env _
    (Login c.offer-offered.result c.args.options.now.name ∷ []) c.stands.ensures refl c.say_login-said.ensures)
