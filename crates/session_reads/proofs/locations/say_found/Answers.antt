use Rattle.std.proofs.{Common.map, lemmas.Result.err_from_is_err_and}
use Rattle.wire_replies.specs.declared.reply.Reply.TheVariants as replies
use Rattle.wire_replies.proofs.Parts.{part_first, said_behind}
use Rattle.machine.specs.Histories.{ended, location_told}
use Rattle.session_reads.proofs.locations.say_found.Goals as goal

pub returns-in_err-say_each : goal.returns-in_err-say_each
returns-in_err-say_each g c =
    let p = err_from_is_err_and c.from_residual.result c.from_residual.ensures.1 in
    rw (p.1) (part_first _ (map location_told c.args.found.now) (ended replies.Success) c.in_err-say_each.ensures)

pub returns : goal.returns
returns g c =
    said_behind _ g.met.S.ReplySink.more c.say_end.result _ _ _ (map location_told c.args.found.now) (ended replies.Success) c.in_ok-say_each.ensures
    c.say_end.ensures
