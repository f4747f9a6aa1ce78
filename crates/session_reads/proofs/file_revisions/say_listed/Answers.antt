use Rattle.std.proofs.lemmas.Result.{err_from_is_err_and}
use Rattle.std.specs.Prelude.{None}
use Rattle.wire_replies.specs.declared.reply.Reply.TheVariants as replies
use Rattle.wire_replies.proofs.Parts.{part_first, said_behind}
use Rattle.machine.specs.Histories.{ended, told_in_turn}
use Rattle.session_reads.proofs.file_revisions.say_listed.Goals as goal

pub returns-in_err-say_each : goal.returns-in_err-say_each
returns-in_err-say_each g c =
    let p = err_from_is_err_and c.from_residual.result c.from_residual.ensures.1 in
    rw (p.1) (part_first _ (told_in_turn (g.R.Repository.content c.args.view.now) None c.args.places.now) (ended replies.Success) c.in_err-say_each.ensures)

pub returns : goal.returns
returns g c =
    said_behind _ g.met.S.ReplySink.more c.say_end.result _ _ _ (told_in_turn (g.R.Repository.content c.args.view.now) None c.args.places.now) (ended replies.Success)
    c.in_ok-say_each.ensures c.say_end.ensures
