use Rattle.std.proofs.Common.{ℕ, List, Option, map, sym, ap, subst, ◌∙◌}
use Rattle.std.specs.Prelude.{Some, option_copied}
use Rattle.text_deltas.specs.Deltas.{delta_chunks}
use Rattle.wire_deltas.specs.Texts.{text_or_empty}
use Rattle.wire_replies.specs.{Sinks.Says, declared.reply.Reply.TheVariants.Chunk}
use Rattle.machine.specs.Histories.{text_before}
use Rattle.session_reads.proofs.file_revisions.say_text.Goals as goal

pub returns-in-Some : goal.returns-in-Some
returns-in-Some g c =
    let text = text_before (g.R.Repository.content c.args.view.now) (Some c.args.place.now) in
    subst (λ (had : List ℕ). Says c.say_delta.result (g.S.ReplySink.writes c.args.out.now c.say_delta.new.out) (map Chunk (delta_chunks had text)))
    c.text_before-before.ensures
    (subst (λ (o : Option (List ℕ)). Says c.say_delta.result (g.S.ReplySink.writes c.args.out.now c.say_delta.new.out)
    (map Chunk (delta_chunks (text_or_empty (option_copied c.text_before-before.result)) (text_or_empty o))))
    (sym (ap option_copied c.in-Some.is) ∙ c.text.ensures) c.say_delta.ensures)

pub returns-in-None : goal.returns-in-None
returns-in-None g c =
    let text = text_before (g.R.Repository.content c.args.view.now) (Some c.args.place.now) in
    subst (λ (had : List ℕ). Says c.say_delta-in-None.result (g.S.ReplySink.writes c.args.out.now c.say_delta-in-None.new.out) (map Chunk (delta_chunks had text)))
    c.text_before-before.ensures
    (subst (λ (o : Option (List ℕ)). Says c.say_delta-in-None.result (g.S.ReplySink.writes c.args.out.now c.say_delta-in-None.new.out)
    (map Chunk (delta_chunks (text_or_empty (option_copied c.text_before-before.result)) (text_or_empty o))))
    (sym (ap option_copied c.in-None.is) ∙ c.text.ensures) (rw c.empty.ensures at c.say_delta-in-None.ensures))
