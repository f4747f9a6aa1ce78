use Rattle.std.proofs.{Common.{ℕ, List, ap, map, ◌∙◌}, lemmas.Result.err_from_is_err_and}
use Rattle.std.specs.Prelude.{option_copied}
use Rattle.text_deltas.specs.Deltas.{delta_chunks}
use Rattle.wire_deltas.specs.Texts.{text_commands, text_or_empty}
use Rattle.wire_replies.specs.{declared.reply.Reply.TheVariants.Edit, declared.reply.Reply.Reply}
use Rattle.wire_replies.proofs.{Given.said_given, Parts.part_none}
use Rattle.wire_deltas.proofs.commands.say_read.Goals as goal

pub returns-in_err-loaded : goal.returns-in_err-loaded
returns-in_err-loaded g c =
    let p = err_from_is_err_and c.from_residual.result c.from_residual.ensures.1 in
    rw (p.1) (part_none _ _ (g.met.S.ReplySink.silent _ _ c.in_err-loaded.ensures.reads))

pub returns : goal.returns
returns g c =
    let told : List ℕ → List Reply = λ text. map Edit (text_commands c.args.token.now (delta_chunks (text_or_empty (option_copied c.args.before)) text)) in
    said_given g.S.Texts.is_honest g.S.ReplySink.writes g.met.S.ReplySink.kept g.met.S.ReplySink.given g.met.S.ReplySink.more c.say_over_any-said.result _ _ _
    (told c.as_slice.result.now) (told c.args.text.now) (g.met.S.ReplySink.silent _ _ c.in_ok-loaded.ensures.reads)
    (λ known. ap told (c.as_slice.ensures ∙ c.in_ok-loaded.ensures.found known)) c.say_over_any-said.ensures
