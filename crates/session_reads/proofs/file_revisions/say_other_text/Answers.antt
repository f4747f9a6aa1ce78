use Rattle.std.proofs.Common.{Bool, sym, subst, ◌∙◌}
use Rattle.std.specs.Prelude.{Some, option_copied}
use Rattle.wire_replies.specs.{Replies.print, Sinks.Says}
use Rattle.machine.specs.Histories.{delta_told, text_before}
use Rattle.session_reads.proofs.file_revisions.say_other_text.Goals as goal

pub returns-then-has_text_of : goal.returns-then-has_text_of
returns-then-has_text_of g c =
    let content = g.R.Repository.content c.args.view.now in
    subst (λ (b : Bool). g.S.ReplySink.writes c.args.out.now c.args.out.now
    (print (delta_told b (text_before content (option_copied c.args.before)) (text_before content (Some c.args.place.now)))))
    (sym c.if-has_text_of.true ∙ c.has_text_of.ensures) (g.met.S.ReplySink.nothing c.args.out.now)

pub returns-else-has_text_of : goal.returns-else-has_text_of
returns-else-has_text_of g c =
    let content = g.R.Repository.content c.args.view.now in
    subst (λ (b : Bool). Says c.say_text.result (g.S.ReplySink.writes c.args.out.now c.say_text.new.out)
    (delta_told b (text_before content (option_copied c.args.before)) (text_before content (Some c.args.place.now))))
    (sym c.if-has_text_of.false ∙ c.has_text_of.ensures) c.say_text.ensures
