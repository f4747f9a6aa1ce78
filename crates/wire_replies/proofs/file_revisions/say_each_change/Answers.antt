use Rattle.std.proofs.{Common.{rules, ◌≡◌, ◌∙◌, [], List, ℕ, drop, ap, subst}, lemmas.List.drop_all, lemmas.Result.err_from_is_err_and}
use Rattle.items.specs.Print.{row_printed}
use Rattle.wire_replies.specs.Replies.{property_change_trees}
use Rattle.wire_replies.proofs.{PropertyRows.{property_change_tree, row_of-property_changes}, Row.{all_written, next_left, one_unwritten, one_written}}
use Rattle.wire_replies.proofs.file_revisions.say_each_change.Goals as goal

pub loop-change-preserved : goal.loop-change-preserved
loop-change-preserved g c =
    let all = c.as_slice-change-items.result.now in
    let next = next_left all c.loop-change.change-index c.change-item.result c.loop-change-test.true c.change-item.is in
    one_written property_change_tree g.S.ReplySink.writes g.met.S.ReplySink.more _ _ _ all _ _ c.change-item.result
    next c.loop-change.invariant (c.in_ok-say_item.ensures _ c.property_change_item.ensures)

pub returns-in_err-say_item : goal.returns-in_err-say_item
returns-in_err-say_item g c =
    let p = err_from_is_err_and c.from_residual.result c.from_residual.ensures.1 in
    let all = c.as_slice-change-items.result.now in
    let same = ap row_printed (row_of-property_changes all) ∙ ap (λ cs. row_printed (property_change_trees cs)) c.as_slice-change-items.ensures in
    let next = next_left all c.loop-change.change-index c.change-item.result c.loop-change-test.true c.change-item.is in
    rw (p.1) (rw same at
    (one_unwritten property_change_tree g.S.ReplySink.writes g.met.S.ReplySink.more _ _ _ all _ _ c.change-item.result
    next c.loop-change.invariant (c.in_err-say_item.ensures _ c.property_change_item.ensures)))

pub returns : goal.returns
returns g c =
    let all = c.as_slice-change-items.result.now in
    let same = ap row_printed (row_of-property_changes all) ∙ ap (λ cs. row_printed (property_change_trees cs)) c.as_slice-change-items.ensures in
    let none : drop c.loop-change.change-index all ≡ [] = search (rules, drop_all) in
    subst (λ (bytes : List ℕ). g.S.ReplySink.writes c.args.out.now c.loop-change.out bytes) same
    (all_written property_change_tree g.S.ReplySink.writes _ _ all _ none c.loop-change.invariant)
