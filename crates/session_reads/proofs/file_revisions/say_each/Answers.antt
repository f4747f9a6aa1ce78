use Rattle.std.proofs.lemmas.Result.{err_from_is_err_and}
use Rattle.session_reads.proofs.{Each.next_left, InTurn.{turn_failed, turn_on}}
use Rattle.session_reads.proofs.file_revisions.say_each.Goals as goal

pub returns-in_err-say_at : goal.returns-in_err-say_at
returns-in_err-say_at g c =
    let p = err_from_is_err_and c.from_residual.result c.from_residual.ensures.1 in
    let item = c.place-item.result in
    rw (p.1) (turn_failed (g.R.Repository.content c.args.view.now) g.S.ReplySink.writes g.met.S.ReplySink.more _ _ _ _ c.args.places.now _ _ item
    (next_left c.args.places.now c.loop-place.place-index item c.loop-place-test.true c.place-item.is)
    c.loop-place.invariant c.in_err-say_at.ensures)

pub loop-place-preserved : goal.loop-place-preserved
loop-place-preserved g c =
    let item = c.place-item.result in
    turn_on (g.R.Repository.content c.args.view.now) g.S.ReplySink.writes g.met.S.ReplySink.more _ _ _ _ c.args.places.now _ _ item
    (next_left c.args.places.now c.loop-place.place-index item c.loop-place-test.true c.place-item.is)
    c.loop-place.invariant c.in_ok-say_at.ensures
