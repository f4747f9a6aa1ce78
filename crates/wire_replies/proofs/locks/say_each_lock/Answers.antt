use Rattle.std.proofs.{Common.{rules, ◌≡◌, [], List, ℕ, map, drop, ap, subst}, lemmas.List.drop_all, lemmas.Result.err_from_is_err_and}
use Rattle.std.specs.Map.Iter.{deref_pair}
use Rattle.items.specs.Print.{row_printed}
use Rattle.wire_replies.proofs.{LockRows.{row_of-locks, tree_of_lock}, Row.{all_written, next_left, one_unwritten, one_written}}
use Rattle.wire_replies.proofs.locks.say_each_lock.Goals as goal

pub loop-path-preserved : goal.loop-path-preserved
loop-path-preserved g c =
    let i = c.loop-path.path-index in
    let next = ap (map deref_pair) (next_left c.args.found.now i c.loop-path-item.result c.loop-path-test.true c.loop-path-item.is) in
    one_written tree_of_lock g.S.ReplySink.writes g.met.S.ReplySink.more _ _ _ (map deref_pair c.args.found.now) _ _ (deref_pair c.loop-path-item.result)
    next c.loop-path.invariant (c.in_ok-say_item.ensures _ c.lock_item.ensures)

pub returns-in_err-say_item : goal.returns-in_err-say_item
returns-in_err-say_item g c =
    let p = err_from_is_err_and c.from_residual.result c.from_residual.ensures.1 in
    let all = map deref_pair c.args.found.now in
    let i = c.loop-path.path-index in
    let next = ap (map deref_pair) (next_left c.args.found.now i c.loop-path-item.result c.loop-path-test.true c.loop-path-item.is) in
    rw (p.1) (rw (ap row_printed (row_of-locks all)) at
    (one_unwritten tree_of_lock g.S.ReplySink.writes g.met.S.ReplySink.more _ _ _ all _ _ (deref_pair c.loop-path-item.result)
    next c.loop-path.invariant (c.in_err-say_item.ensures _ c.lock_item.ensures)))

pub returns : goal.returns
returns g c =
    let all = map deref_pair c.args.found.now in
    let none : map deref_pair (drop c.loop-path.path-index c.args.found.now) ≡ [] = search (rules, drop_all) in
    subst (λ (bytes : List ℕ). g.S.ReplySink.writes c.args.out.now c.loop-path.out bytes) (ap row_printed (row_of-locks all))
    (all_written tree_of_lock g.S.ReplySink.writes _ _ all _ none c.loop-path.invariant)
