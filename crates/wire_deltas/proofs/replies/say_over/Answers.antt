use Rattle.std.proofs.{Common.{◌∷◌, [], map, subst}, lemmas.Result.err_from_is_err_and}
use Rattle.svndiff0.specs.Document.{header}
use Rattle.text_deltas.specs.Deltas.{delta_chunks, windows}
use Rattle.wire_replies.specs.{Sinks.Says, declared.reply.Reply.TheVariants.Chunk}
use Rattle.wire_replies.proofs.Parts.{part_first, said_behind}
use Rattle.wire_deltas.proofs.replies.say_over.Goals as goal

pub returns-in_err-say_made : goal.returns-in_err-say_made
returns-in_err-say_made g c =
    let p = err_from_is_err_and c.from_residual.result c.from_residual.ensures.1 in
    rw (p.1) (part_first _ (Chunk header ∷ []) (map Chunk (windows c.args.before.now c.args.text.now)) (c.in_err-say_made.ensures (Chunk header) c.header.ensures))

pub returns : goal.returns
returns g c =
    subst (λ b. Says c.say_windows.result (g.S.ReplySink.writes c.args.out.now c.say_windows.new.out) (map Chunk (delta_chunks b c.args.text.now))) c.new.ensures.before
    (subst (λ t. Says c.say_windows.result (g.S.ReplySink.writes c.args.out.now c.say_windows.new.out) (map Chunk (delta_chunks c.new.result.before.now t))) c.new.ensures.text
    (said_behind _ g.met.S.ReplySink.more c.say_windows.result _ _ _ (Chunk header ∷ []) (map Chunk (windows c.new.result.before.now c.new.result.text.now))
    (c.in_ok-say_made.ensures (Chunk header) c.header.ensures) c.say_windows.ensures))
