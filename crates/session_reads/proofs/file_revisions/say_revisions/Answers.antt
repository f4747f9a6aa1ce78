use Rattle.std.proofs.Common.{sym, subst, List}
use Rattle.wire_replies.specs.{declared.reply.Reply.Reply, Sinks.Says}
use Rattle.session_reads.proofs.InTurn.{revisions_listed, revisions_refused}
use Rattle.session_reads.proofs.file_revisions.say_revisions.Goals as goal

pub returns-in-None : goal.returns-in-None
returns-in-None g c =
    let content = g.R.Repository.content c.args.view.now in
    subst (λ (rs : List Reply). Says c.say_found.result (g.S.ReplySink.writes c.args.out.now c.say_found.new.out) rs)
    (sym (revisions_listed c.args.asked.is_of_today content c.args.asked.command.now c.args.path c.or_youngest-start.result c.or_youngest-end.result _
    c.file_revisions_refusal.result c.or_youngest-start.ensures c.or_youngest-end.ensures c.max.ensures c.file_revisions_refusal.ensures c.in-None.is))
    (c.say_found.ensures _ c.file_revisions-found.ensures)

pub returns-in-Some : goal.returns-in-Some
returns-in-Some g c =
    let content = g.R.Repository.content c.args.view.now in
    subst (λ (rs : List Reply). Says c.say_refused_at.result (g.S.ReplySink.writes c.args.out.now c.say_refused_at.new.out) rs)
    (sym (revisions_refused c.args.asked.is_of_today content c.args.asked.command.now c.args.path c.or_youngest-start.result c.or_youngest-end.result _
    c.file_revisions_refusal.result c.in-Some.refusal c.or_youngest-start.ensures c.or_youngest-end.ensures c.max.ensures c.file_revisions_refusal.ensures c.in-Some.is))
    c.say_refused_at.ensures
