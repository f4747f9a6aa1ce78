use Rattle.std.proofs.{Common.{rules, arith, ◌≡◌, ◌+◌, ◌≤◌, length, subst}, lemmas.Result.err_from_is_err_and}
use Rattle.std.specs.Int.{div_ceil}
use Rattle.text_deltas.specs.Deltas.{nth_window}
use Rattle.wire_edits.specs.declared.editing.EditorCommand.TheVariants.{TextDeltaChunk}
use Rattle.wire_replies.specs.{declared.reply.Reply.TheVariants.Edit, Replies.print}
use Rattle.wire_deltas.proofs.Written.{chunks, chunks_grow, next_on, next_failed}
use Rattle.wire_deltas.proofs.commands.say_windows.Goals as goal

pub loop-place-preserved : goal.loop-place-preserved
loop-place-preserved g c =
    next_on (chunks c.args.token.now c.args.delta.before.now c.args.delta.text.now) (λ n. Edit (TextDeltaChunk c.args.token.now (nth_window c.args.delta.before.now c.args.delta.text.now n))) (chunks_grow c.args.token.now c.args.delta.before.now c.args.delta.text.now)
    g.S.ReplySink.writes g.met.S.ReplySink.more c.args.out.now c.loop-place.out c.say_made.new.out c.loop-place.place
    c.loop-place.invariant (c.in_ok-say_made.ensures _ c.window.ensures)

pub returns-in_err-say_made : goal.returns-in_err-say_made
returns-in_err-say_made g c =
    let p = err_from_is_err_and c.from_residual.result c.from_residual.ensures.1 in
    let within : c.loop-place.place + 1 ≤ div_ceil (length c.args.delta.text.now) 65536 = search (rules, arith) in
    rw (p.1) (next_failed (chunks c.args.token.now c.args.delta.before.now c.args.delta.text.now) (λ n. Edit (TextDeltaChunk c.args.token.now (nth_window c.args.delta.before.now c.args.delta.text.now n))) (chunks_grow c.args.token.now c.args.delta.before.now c.args.delta.text.now)
    g.S.ReplySink.writes g.met.S.ReplySink.more c.args.out.now c.loop-place.out c.say_made.new.out c.loop-place.place (div_ceil (length c.args.delta.text.now) 65536)
    within c.loop-place.invariant (c.in_err-say_made.ensures _ c.window.ensures))

pub returns : goal.returns
returns g c =
    let all : c.loop-place.place ≡ div_ceil (length c.args.delta.text.now) 65536 = search (rules, arith) in
    subst (λ n. g.S.ReplySink.writes c.args.out.now c.loop-place.out (print (chunks c.args.token.now c.args.delta.before.now c.args.delta.text.now n))) all c.loop-place.invariant
