use Rattle.std.proofs.Common.{sym, subst, List}
use Rattle.wire_replies.specs.{declared.reply.Reply.Reply, Sinks.Says}
use Rattle.session_reads.proofs.Listed.{log_listed, log_refused}
use Rattle.session_reads.proofs.logs.say_log.Goals as goal

pub returns-in-None : goal.returns-in-None
returns-in-None g c =
    let content = g.R.Repository.content c.args.view.now in
    subst (λ (rs : List Reply). Says c.say_opened.result (g.S.ReplySink.writes c.args.out.now c.say_opened.new.out) rs)
    (sym (log_listed c.args.asked.is_of_today content c.args.asked.command.now c.args.paths.now c.log_ask-ask.result c.log_refusal.result c.log_ask-ask.ensures
    c.log_refusal.ensures c.in-None.is)) (c.say_opened.ensures _ c.open-log.ensures)

pub returns-in-Some : goal.returns-in-Some
returns-in-Some g c =
    let content = g.R.Repository.content c.args.view.now in
    subst (λ (rs : List Reply). Says c.say_refused_at.result (g.S.ReplySink.writes c.args.out.now c.say_refused_at.new.out) rs)
    (sym (log_refused c.args.asked.is_of_today content c.args.asked.command.now c.args.paths.now c.log_ask-ask.result c.log_refusal.result c.in-Some.refusal _
    c.log_ask-ask.ensures c.log_refusal.ensures c.in-Some.is c.first_missing-missing.ensures)) c.say_refused_at.ensures
