use Rattle.std.proofs.Common.{sym, subst, List}
use Rattle.repo_api.specs.Histories.{history_of}
use Rattle.wire_replies.specs.{declared.reply.Reply.Reply, Sinks.Says}
use Rattle.session_reads.proofs.Listed.{segments_listed, segments_refused}
use Rattle.session_reads.proofs.segments.say_segments.Goals as goal

pub returns-in-None : goal.returns-in-None
returns-in-None g c =
    let content = g.R.Repository.content c.args.view.now in
    subst (λ (rs : List Reply). Says c.say_listed-said.result (g.S.ReplySink.writes c.args.out.now c.say_listed-said.new.out) rs)
    (sym (segments_listed c.args.asked.is_of_today content c.args.asked.command.now c.args.path c.or_youngest.result c.or_youngest-start.result c.or_first-end.result
    c.segments_refusal.result _ c.or_youngest.ensures c.or_youngest-start.ensures c.or_first-end.ensures c.segments_refusal.ensures c.in-None.is
    (c.open-segments.ensures (history_of content)))) c.say_listed-said.ensures

pub returns-in-Some : goal.returns-in-Some
returns-in-Some g c =
    let content = g.R.Repository.content c.args.view.now in
    subst (λ (rs : List Reply). Says c.say_refused_at.result (g.S.ReplySink.writes c.args.out.now c.say_refused_at.new.out) rs)
    (sym (segments_refused c.args.asked.is_of_today content c.args.asked.command.now c.args.path c.or_youngest.result c.or_youngest-start.result c.or_first-end.result
    c.segments_refusal.result c.in-Some.refusal c.or_youngest.ensures c.or_youngest-start.ensures c.or_first-end.ensures c.segments_refusal.ensures c.in-Some.is))
    c.say_refused_at.ensures
