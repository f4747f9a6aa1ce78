use Rattle.std.proofs.{Common.{◌∷◌, ◌++◌, [], map, subst}, lemmas.Result.err_from_is_err_and}
use Rattle.std.specs.Prelude.{None}
use Rattle.svndiff0.specs.Document.{header}
use Rattle.text_deltas.specs.Deltas.{delta_chunks, windows}
use Rattle.wire_deltas.specs.Texts.{text_commands}
use Rattle.wire_edits.specs.declared.editing.EditorCommand.TheVariants.{ApplyTextDelta, TextDeltaChunk, TextDeltaEnd}
use Rattle.wire_replies.specs.{Sinks.Says, declared.reply.Reply.TheVariants.Edit}
use Rattle.wire_replies.proofs.Parts.{part_first, said_behind}
use Rattle.wire_deltas.proofs.commands.say_over.Goals as goal

pub returns-in_err-say_begun : goal.returns-in_err-say_begun
returns-in_err-say_begun g c =
    let p = err_from_is_err_and c.from_residual.result c.from_residual.ensures.1 in
    rw (p.1) (part_first _ (Edit (ApplyTextDelta c.args.token.now None) ∷ Edit (TextDeltaChunk c.args.token.now header) ∷ [])
    (map Edit (map (TextDeltaChunk c.args.token.now) (windows c.args.before.now c.args.text.now) ++ TextDeltaEnd c.args.token.now ∷ []))
    c.in_err-say_begun.ensures)

pub returns : goal.returns
returns g c =
    subst (λ b. Says c.say_ended.result (g.S.ReplySink.writes c.args.out.now c.say_ended.new.out) (map Edit (text_commands c.args.token.now (delta_chunks b c.args.text.now)))) c.new.ensures.before
    (subst (λ t. Says c.say_ended.result (g.S.ReplySink.writes c.args.out.now c.say_ended.new.out) (map Edit (text_commands c.args.token.now (delta_chunks c.new.result.before.now t)))) c.new.ensures.text
    (said_behind _ g.met.S.ReplySink.more c.say_ended.result _ _ _ (Edit (ApplyTextDelta c.args.token.now None) ∷ Edit (TextDeltaChunk c.args.token.now header) ∷ [])
    (map Edit (map (TextDeltaChunk c.args.token.now) (windows c.new.result.before.now c.new.result.text.now) ++ TextDeltaEnd c.args.token.now ∷ []))
    c.in_ok-say_begun.ensures c.say_ended.ensures))
