use Rattle.std.proofs.{Common.{rules, ◌≡◌, ◌∙◌, [], List, ℕ, map, drop, ap, subst}, lemmas.List.drop_all, lemmas.Result.err_from_is_err_and}
use Rattle.std.specs.Map.Iter.{deref_pair}
use Rattle.items.specs.Print.{row_printed}
use Rattle.svnpath.specs.Listings.{listing}
use Rattle.machine.specs.Histories.{change_told}
use Rattle.wire_replies.specs.Replies.{change_tree, change_trees}
use Rattle.wire_replies.proofs.{ChangeRows.row_of-changes, Row.{all_written, next_left, one_unwritten, one_written}}
use Rattle.session_reads.proofs.log_entries.say_all_changes.Goals as goal

pub loop-path-preserved : goal.loop-path-preserved
loop-path-preserved g c =
    let told = change_told (g.R.Repository.content c.args.view.now) c.args.revision in
    let pairs = c.deref-path-items.result.now in
    let next = ap (λ xs. map told (map deref_pair xs)) (next_left pairs c.loop-path.path-index c.loop-path-item.result c.loop-path-test.true c.loop-path-item.is) in
    one_written change_tree g.S.ReplySink.writes g.met.S.ReplySink.more _ _ _ (map told (map deref_pair pairs)) _ _ (told (deref_pair c.loop-path-item.result))
    next c.loop-path.invariant (c.in_ok-say_change.ensures _ c.change_told.ensures)

pub returns-in_err-say_change : goal.returns-in_err-say_change
returns-in_err-say_change g c =
    let p = err_from_is_err_and c.from_residual-in_err-say_change.result c.from_residual-in_err-say_change.ensures.1 in
    let told = change_told (g.R.Repository.content c.args.view.now) c.args.revision in
    let pairs = c.deref-path-items.result.now in
    let all = map told (map deref_pair pairs) in
    let same = ap (λ xs. map told (map deref_pair xs)) c.deref-path-items.ensures.value ∙ ap (map told) (c.in_ok-changes.ensures ∙ ap listing c.changes.ensures) in
    let next = ap (λ xs. map told (map deref_pair xs)) (next_left pairs c.loop-path.path-index c.loop-path-item.result c.loop-path-test.true c.loop-path-item.is) in
    rw (p.1) (rw (ap row_printed (row_of-changes all) ∙ ap (λ cs. row_printed (change_trees cs)) same) at
    (one_unwritten change_tree g.S.ReplySink.writes g.met.S.ReplySink.more _ _ _ all _ _ (told (deref_pair c.loop-path-item.result))
    next c.loop-path.invariant (c.in_err-say_change.ensures _ c.change_told.ensures)))

pub returns : goal.returns
returns g c =
    let told = change_told (g.R.Repository.content c.args.view.now) c.args.revision in
    let pairs = c.deref-path-items.result.now in
    let all = map told (map deref_pair pairs) in
    let same = ap (λ xs. map told (map deref_pair xs)) c.deref-path-items.ensures.value ∙ ap (map told) (c.in_ok-changes.ensures ∙ ap listing c.changes.ensures) in
    let none : map told (map deref_pair (drop c.loop-path.path-index pairs)) ≡ [] = search (rules, drop_all) in
    subst (λ (bytes : List ℕ). g.S.ReplySink.writes c.args.out.now c.loop-path.out bytes)
    (ap row_printed (row_of-changes all) ∙ ap (λ cs. row_printed (change_trees cs)) same)
    (all_written change_tree g.S.ReplySink.writes _ _ all _ none c.loop-path.invariant)
