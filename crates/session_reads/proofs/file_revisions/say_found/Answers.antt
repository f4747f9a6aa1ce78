use Rattle.std.proofs.Common.{◌≡◌, List, ◌++◌, subst, ◌∙◌}
use Rattle.std.specs.Prelude.{IfOk, None}
use Rattle.traces.specs.declared.place.Place.{Place}
use Rattle.machine.specs.Histories.{ended, told_in_turn}
use Rattle.wire_replies.specs.Sinks.{Says}
use Rattle.wire_replies.specs.declared.reply.Reply.TheVariants as replies
use Rattle.wire_replies.proofs.Parts.{part_none}
use Rattle.session_reads.proofs.file_revisions.say_found.Goals as goal

pub returns-in-Ok : goal.returns-in-Ok
returns-in-Ok g c all is =
    subst (λ (places : List Place). Says c.say_listed-said.result (g.S.ReplySink.writes c.args.out.now c.say_listed-said.new.out)
    (told_in_turn (g.R.Repository.content c.args.view.now) None places ++ ended replies.Success))
    (c.as_slice.ensures.value ∙ subst (λ r. IfOk r (λ places. places.items ≡ all)) c.in-Ok.is is) c.say_listed-said.ensures

pub returns-in-Err : goal.returns-in-Err
returns-in-Err g c all is = part_none _ _ (g.met.S.ReplySink.nothing _)
