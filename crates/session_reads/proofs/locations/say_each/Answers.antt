use Rattle.std.proofs.lemmas.Result.{err_from_is_err_and}
use Rattle.machine.specs.Histories.{location_told}
use Rattle.session_reads.proofs.Each.{one_told, one_failed, next_left}
use Rattle.session_reads.proofs.locations.say_each.Goals as goal

pub returns-in_err-say_location : goal.returns-in_err-say_location
returns-in_err-say_location g c =
    let p = err_from_is_err_and c.from_residual.result c.from_residual.ensures.1 in
    let item = c.loop-revision-item.result in
    rw (p.1) (one_failed location_told g.S.ReplySink.writes g.met.S.ReplySink.more _ _ _ c.args.found.now _ _ item
    (next_left c.args.found.now c.loop-revision.revision-index item c.loop-revision-test.true c.loop-revision-item.is)
    c.loop-revision.invariant c.in_err-say_location.ensures)

pub loop-revision-preserved : goal.loop-revision-preserved
loop-revision-preserved g c =
    let item = c.loop-revision-item.result in
    one_told location_told g.S.ReplySink.writes g.met.S.ReplySink.more _ _ _ c.args.found.now _ _ item
    (next_left c.args.found.now c.loop-revision.revision-index item c.loop-revision-test.true c.loop-revision-item.is)
    c.loop-revision.invariant c.in_ok-say_location.ensures
