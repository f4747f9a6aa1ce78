use Rattle.std.proofs.{Common.{◌∷◌, []}, lemmas.Result.err_from_is_err_and}
use Rattle.std.specs.Prelude.{None}
use Rattle.svndiff0.specs.Document.{header}
use Rattle.wire_edits.specs.declared.editing.EditorCommand.TheVariants.{ApplyTextDelta, TextDeltaChunk, TextDeltaEnd}
use Rattle.wire_replies.specs.declared.reply.Reply.TheVariants.{Edit}
use Rattle.wire_replies.proofs.Parts.{part_first, said_behind}
use Rattle.wire_deltas.proofs.commands.say_header.Goals as goal

pub returns-in_err-say_begun : goal.returns-in_err-say_begun
returns-in_err-say_begun g c =
    let p = err_from_is_err_and c.from_residual.result c.from_residual.ensures.1 in
    rw (p.1) (part_first _ (Edit (ApplyTextDelta c.args.token.now None) ∷ Edit (TextDeltaChunk c.args.token.now header) ∷ [])
    (Edit (TextDeltaEnd c.args.token.now) ∷ []) c.in_err-say_begun.ensures)

pub returns : goal.returns
returns g c =
    said_behind _ g.met.S.ReplySink.more c.say_made.result _ _ _ (Edit (ApplyTextDelta c.args.token.now None) ∷ Edit (TextDeltaChunk c.args.token.now header) ∷ [])
    (Edit (TextDeltaEnd c.args.token.now) ∷ []) c.in_ok-say_begun.ensures (c.say_made.ensures (Edit (TextDeltaEnd c.args.token.now)) c.end.ensures)
