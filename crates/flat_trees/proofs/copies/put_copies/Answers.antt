use Rattle.std.proofs.{Common.{◌≡◌, rules, true, Some, None, sym, ap, ◌∙◌}, lemmas.Map.Iter.{rest_more, btree_map_turn}}
use Rattle.std.specs.{Prelude.if◌then◌else◌, Option.option_or, List.list_any, Map.keys_of, Map.Iter.deref_pair}
use Rattle.svnpath.specs.Paths.{is_at_or_under, path_cmp_total, same_path}
use Rattle.revision_data.specs.Found.{found}
use Rattle.flat_entries.specs.Copies.{copied_entry}
use Rattle.flat_trees.specs.EntryChanges.{landed}
use Rattle.flat_trees.proofs.Copied.{target, lands, start_copy, copy_more}
use Rattle.flat_trees.proofs.copies.put_copies.Goals as goal

pub loop-path-init : goal.loop-path-init
loop-path-init c = λ q.
    let from = c.args.from.now in
    let to = c.args.to.now in
    let es = c.args.source.now.entries in
    let old = found c.args.entries.now.entries q in
    ap (λ ks. option_or (if list_any (lands from to q) (keys_of ks) then landed (found es) from to q else None) old) c.into_iter-path-iterator.ensures.into_iter_gives.0
    ∙ start_copy es from to q old

pub loop-path-preserved : goal.loop-path-preserved
loop-path-preserved c = λ q.
    let from = c.args.from.now in
    let to = c.args.to.now in
    let es = c.args.source.now.entries in
    let k = c.in-Some.path.now in
    let v = c.in-Some.entry.now in
    let left = c.next.new.self in
    let out = found c.loop-path.entries.entries q in
    let gives = c.into_iter-path-iterator.ensures.into_iter_gives in
    let turn = btree_map_turn deref_pair c.loop-path.yielded _ c.loop-path.path-iterator left c.next.result (c.in-Some.path, c.in-Some.entry) c.loop-path.yielded_by c.in-Some.is c.next.ensures.steps path_cmp_total c.args.source.now gives.0 gives.5 in
    let under : is_at_or_under k from ≡ true = search rules in
    copy_more (found es) from to k q v (list_any (lands from to q) (keys_of left)) out (found c.put_copy.new.entries.entries q) under turn.1
    (c.in_ok-put_copy.ensures q
    ∙ ap (λ p. if same_path p q then Some (copied_entry c.eq.result v) else out) c.in_ok-target.ensures
    ∙ ap (λ b. if same_path (target from to k) q then Some (copied_entry b v) else out) c.eq.ensures)
    ∙ ap (λ ks. option_or (if list_any (lands from to q) (keys_of ks) then landed (found es) from to q else None) out)
    (sym (rest_more deref_pair c.loop-path.path-iterator left c.next.result (c.in-Some.path, c.in-Some.entry) c.in-Some.is c.next.ensures.steps))
    ∙ c.loop-path.invariant q
