use Rattle.std.proofs.{Common.{Bool, [], ◌∷◌, ◌++◌, sym, subst, ◌∙◌}, lemmas.Result.err_from_is_err_and}
use Rattle.replays.specs.{Edits.edit_replies, declared.ask.ReplayAsk.ReplayAsk}
use Rattle.machine.specs.Replays.{replay_ask}
use Rattle.wire_replies.specs.Sinks.{Says}
use Rattle.wire_replies.specs.declared.reply.Reply.TheVariants as replies
use Rattle.wire_replies.proofs.Parts.{part_none}
use Rattle.session_replays.proofs.Judged.{unless_to_come}
use Rattle.session_replays.proofs.replaying.say_replay.Goals as goal

pub returns-then-is_to_come : goal.returns-then-is_to_come
returns-then-is_to_come g c =
    let content = g.R.Repository.content c.args.view.now in
    let command = c.args.command.now in
    let told = edit_replies content (replay_ask c.args.client.now command.low command.sends_deltas) command.revision ++ replies.Success ∷ [] in
    subst (λ (b : Bool). Says c.tell_refusal.result (g.S.ReplySink.writes c.args.out.now c.tell_refusal.new.out) (unless_to_come b told))
    (sym c.if-is_to_come.true ∙ c.is_to_come.ensures) c.tell_refusal.ensures

pub returns-in_err-ask : goal.returns-in_err-ask
returns-in_err-ask g c =
    let p = err_from_is_err_and c.from_residual.result c.from_residual.ensures.1 in
    rw (p.1) (part_none _ _ (g.met.S.ReplySink.nothing _))

pub returns : goal.returns
returns g c =
    let content = g.R.Repository.content c.args.view.now in
    let command = c.args.command.now in
    let ask = replay_ask c.args.client.now command.low command.sends_deltas in
    subst (λ (b : Bool). Says c.say_whole-said.result (g.S.ReplySink.writes c.args.out.now c.say_whole-said.new.out)
    (unless_to_come b (edit_replies content ask command.revision ++ replies.Success ∷ [])))
    (sym c.if-is_to_come.false ∙ c.is_to_come.ensures)
    (subst (λ (a : ReplayAsk). Says c.say_whole-said.result (g.S.ReplySink.writes c.args.out.now c.say_whole-said.new.out)
    (edit_replies content a command.revision ++ replies.Success ∷ [])) c.in_ok-ask.ensures c.say_whole-said.ensures)
