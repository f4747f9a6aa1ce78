use Rattle.std.proofs.{Common.{map, codes}, lemmas.Result.err_from_is_err_and}
use Rattle.std.specs.Map.Iter.{deref_pair}
use Rattle.items.specs.Print.{row_printed}
use Rattle.wire_replies.specs.Replies.{lock_trees}
use Rattle.wire_replies.proofs.{Frames.locks_printed, Row.{body_unwritten, head_unwritten, tail_written}}
use Rattle.wire_replies.proofs.locks.say_locks.Goals as goal

pub returns-in_err-write_part : goal.returns-in_err-write_part
returns-in_err-write_part g c =
    let p = err_from_is_err_and c.from_residual.result c.from_residual.ensures.1 in
    let all = map deref_pair c.args.found.now in
    rw (p.1) (head_unwritten g.S.ReplySink.writes g.met.S.ReplySink.more _ (codes "( success ( ( ") (row_printed (lock_trees all)) (codes ") ) ) ")
    (locks_printed all) _ _ c.in_err-write_part.ensures)

pub returns-in_err-say_each_lock : goal.returns-in_err-say_each_lock
returns-in_err-say_each_lock g c =
    let p = err_from_is_err_and c.from_residual-in_err-say_each_lock.result c.from_residual-in_err-say_each_lock.ensures.1 in
    let all = map deref_pair c.args.found.now in
    rw (p.1) (body_unwritten g.S.ReplySink.writes g.met.S.ReplySink.more _ (codes "( success ( ( ") (row_printed (lock_trees all)) (codes ") ) ) ")
    (locks_printed all) _ _ _ c.in_ok-write_part.ensures c.in_err-say_each_lock.ensures)

pub returns : goal.returns
returns g c =
    let all = map deref_pair c.args.found.now in
    tail_written g.S.ReplySink.writes g.met.S.ReplySink.more _ (codes "( success ( ( ") (row_printed (lock_trees all)) (codes ") ) ) ")
    (locks_printed all) c.write_part-2.result _ _ _ _ c.in_ok-write_part.ensures c.in_ok-say_each_lock.ensures c.write_part-2.ensures
