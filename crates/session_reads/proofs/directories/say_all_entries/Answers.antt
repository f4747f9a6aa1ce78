use Rattle.std.proofs.{Common.{rules, ◌≡◌, ◌∙◌, [], List, ℕ, map, drop, ap, subst}, lemmas.List.drop_all, lemmas.Result.err_from_is_err_and}
use Rattle.std.specs.Map.Iter.{deref}
use Rattle.items.specs.Print.{row_printed}
use Rattle.machine.specs.Readings.{entry_told}
use Rattle.wire_replies.specs.Replies.{entry_trees}
use Rattle.wire_replies.proofs.{EntryRows.{row_of-entries, tree_of_entry}, Row.{all_written, next_left, one_unwritten, one_written}}
use Rattle.session_reads.proofs.directories.say_all_entries.Goals as goal

pub loop-name-preserved : goal.loop-name-preserved
loop-name-preserved g c =
    let told = entry_told (g.R.Repository.content c.args.view.now) c.args.place.now in
    let names = c.deref-name-items.result.now in
    let next = ap (λ xs. map told (map deref xs)) (next_left names c.loop-name.name-index c.name-item.result c.loop-name-test.true c.name-item.is) in
    one_written tree_of_entry g.S.ReplySink.writes g.met.S.ReplySink.more _ _ _ (map told (map deref names)) _ _ (told (deref c.name-item.result))
    next c.loop-name.invariant (c.in_ok-say_entry.ensures _ c.entry_told.ensures)

pub returns-in_err-say_entry : goal.returns-in_err-say_entry
returns-in_err-say_entry g c =
    let p = err_from_is_err_and c.from_residual-in_err-say_entry.result c.from_residual-in_err-say_entry.ensures.1 in
    let told = entry_told (g.R.Repository.content c.args.view.now) c.args.place.now in
    let names = c.deref-name-items.result.now in
    let all = map told (map deref names) in
    let same = ap (λ xs. map told (map deref xs)) c.deref-name-items.ensures.value ∙ ap (map told) c.in_ok-names.ensures in
    let next = ap (λ xs. map told (map deref xs)) (next_left names c.loop-name.name-index c.name-item.result c.loop-name-test.true c.name-item.is) in
    rw (p.1) (rw (ap row_printed (row_of-entries all) ∙ ap (λ es. row_printed (entry_trees es)) same) at
    (one_unwritten tree_of_entry g.S.ReplySink.writes g.met.S.ReplySink.more _ _ _ all _ _ (told (deref c.name-item.result))
    next c.loop-name.invariant (c.in_err-say_entry.ensures _ c.entry_told.ensures)))

pub returns : goal.returns
returns g c =
    let told = entry_told (g.R.Repository.content c.args.view.now) c.args.place.now in
    let names = c.deref-name-items.result.now in
    let all = map told (map deref names) in
    let same = ap (λ xs. map told (map deref xs)) c.deref-name-items.ensures.value ∙ ap (map told) c.in_ok-names.ensures in
    let none : map told (map deref (drop c.loop-name.name-index names)) ≡ [] = search (rules, drop_all) in
    subst (λ (bytes : List ℕ). g.S.ReplySink.writes c.args.out.now c.loop-name.out bytes)
    (ap row_printed (row_of-entries all) ∙ ap (λ es. row_printed (entry_trees es)) same)
    (all_written tree_of_entry g.S.ReplySink.writes _ _ all _ none c.loop-name.invariant)
