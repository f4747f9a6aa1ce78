use Rattle.std.proofs.{Common.codes, lemmas.Result.err_from_is_err_and}
use Rattle.items.specs.{Print.printed, Values.number}
use Rattle.wire_replies.proofs.Row.{first_part, written_behind}
use Rattle.wire_replies.proofs.entries.say_revision_first.Goals as goal

pub returns-in_err-write_part : goal.returns-in_err-write_part
returns-in_err-write_part g c =
    let p = err_from_is_err_and c.from_residual.result c.from_residual.ensures.1 in
    rw (p.1) (first_part _ (codes "( success ( ") (printed (number c.args.revision)) c.in_err-write_part.ensures)

pub returns : goal.returns
returns g c =
    written_behind g.S.ReplySink.writes g.met.S.ReplySink.more c.say_item.result _ _ _ (codes "( success ( ") (printed (number c.args.revision))
    c.in_ok-write_part.ensures (c.say_item.ensures _ c.number_item.ensures)
