use Rattle.std.proofs.{Common.{List, ◌∷◌, [], map, sym, subst}, lemmas.List.map-append, lemmas.Result.err_from_is_err_and}
use Rattle.text_deltas.specs.Deltas.{windows}
use Rattle.wire_edits.specs.declared.editing.EditorCommand.TheVariants.{TextDeltaChunk, TextDeltaEnd}
use Rattle.wire_replies.specs.{Replies.print, Sinks.{Says, WritesPart}, declared.reply.Reply.Reply, declared.reply.Reply.TheVariants.Edit}
use Rattle.wire_replies.proofs.Parts.{part_first, said_behind}
use Rattle.wire_deltas.proofs.commands.say_ended.Goals as goal

pub returns-in_err-say_windows : goal.returns-in_err-say_windows
returns-in_err-say_windows g c =
    let p = err_from_is_err_and c.from_residual.result c.from_residual.ensures.1 in
    let chunks = map (TextDeltaChunk c.args.token.now) (windows c.args.delta.before.now c.args.delta.text.now) in
    rw (p.1) (subst (λ (rs : List Reply). WritesPart (g.S.ReplySink.writes c.args.out.now c.say_windows.new.out) (print rs))
    (sym (map-append Edit chunks (TextDeltaEnd c.args.token.now ∷ [])))
    (part_first _ (map Edit chunks) (Edit (TextDeltaEnd c.args.token.now) ∷ []) c.in_err-say_windows.ensures))

pub returns : goal.returns
returns g c =
    let chunks = map (TextDeltaChunk c.args.token.now) (windows c.args.delta.before.now c.args.delta.text.now) in
    subst (λ (rs : List Reply). Says c.say_made.result (g.S.ReplySink.writes c.args.out.now c.say_made.new.out) rs)
    (sym (map-append Edit chunks (TextDeltaEnd c.args.token.now ∷ [])))
    (said_behind _ g.met.S.ReplySink.more c.say_made.result _ _ _ (map Edit chunks) (Edit (TextDeltaEnd c.args.token.now) ∷ [])
    c.in_ok-say_windows.ensures (c.say_made.ensures (Edit (TextDeltaEnd c.args.token.now)) c.end.ensures))
