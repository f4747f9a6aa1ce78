use Rattle.std.proofs.{Common.{Bool, [], ◌∷◌, ◌++◌, sym, ap, subst, ◌∙◌}, lemmas.Result.err_from_is_err_and}
use Rattle.replays.specs.declared.ask.ReplayAsk.{ReplayAsk}
use Rattle.machine.specs.{Histories.is_to_come, Replays.{replay_ask, revision_replayed}}
use Rattle.wire_replies.specs.Sinks.{Says}
use Rattle.wire_replies.specs.declared.reply.Reply.TheVariants as replies
use Rattle.wire_replies.proofs.Parts.{part_none}
use Rattle.session_replays.proofs.{InTurn.told_from, Judged.unless_to_come}
use Rattle.session_replays.proofs.ranges.say_replay_range.Goals as goal

pub returns-then-is_to_come : goal.returns-then-is_to_come
returns-then-is_to_come g c =
    let content = g.R.Repository.content c.args.view.now in
    let command = c.args.command.now in
    let ask = replay_ask c.args.client.now command.low command.sends_deltas in
    let told = told_from (revision_replayed content ask) command.start command.end ++ replies.Success ∷ [] in
    subst (λ (b : Bool). Says c.tell_refusal.result (g.S.ReplySink.writes c.args.out.now c.tell_refusal.new.out) (unless_to_come b told))
    (sym c.if-is_to_come.true ∙ c.is_to_come.ensures ∙ ap (is_to_come content) c.max.ensures) c.tell_refusal.ensures

pub returns-in_err-ask : goal.returns-in_err-ask
returns-in_err-ask g c =
    let p = err_from_is_err_and c.from_residual.result c.from_residual.ensures.1 in
    rw (p.1) (part_none _ _ (g.met.S.ReplySink.nothing _))

pub returns : goal.returns
returns g c =
    let content = g.R.Repository.content c.args.view.now in
    let command = c.args.command.now in
    let ask = replay_ask c.args.client.now command.low command.sends_deltas in
    subst (λ (b : Bool). Says c.say_whole-said.result (g.S.ReplySink.writes c.args.out.now c.say_whole-said.new.out)
    (unless_to_come b (told_from (revision_replayed content ask) command.start command.end ++ replies.Success ∷ [])))
    (sym c.if-is_to_come.false ∙ c.is_to_come.ensures ∙ ap (is_to_come content) c.max.ensures)
    (subst (λ (a : ReplayAsk). Says c.say_whole-said.result (g.S.ReplySink.writes c.args.out.now c.say_whole-said.new.out)
    (told_from (revision_replayed content a) command.start command.end ++ replies.Success ∷ [])) c.in_ok-ask.ensures c.say_whole-said.ensures)
