use Rattle.std.proofs.{Common.{◌++◌, ◌∷◌, [], Option, Some, None, Err, refl, sym, ap, subst, ◌∙◌}, lemmas.Result.err_from_is_err_and}
use Rattle.std.proofs.lemmas.Map.Iter.{rest_more, rest_all}
use Rattle.treemerge.specs.{declared.merging.Places.Places, Merges.{IsTold, spot_tree, IsMergeOf, IsMerged, IsConflictUnder, IfConflict}}
use Rattle.treemerge.proofs.Conflicts.{conflict_on, conflict_above, mergeable_entry, conflict_here, gone_conflict}
use Rattle.treemerge.proofs.Overlays.{cut, nowhere_before, merged_here, merged_apart, merge_ends}
use Rattle.noderevs.specs.Held.{node_at}
use Rattle.txntree.specs.{Changes.{first_of, IsWalking}, Spots.{change_spot, changed_at, flat, over, shared_spot}, Spots.Spot.Opened}
use Rattle.txntree.specs.{declared.open.Change.Change, declared.open.OpenNode.OpenNode, declared.open.Change.TheVariants.{Is, Gone}}
use Rattle.txntree.specs.declared.open.Change.TheViews.{roll-OpenNode}
use Rattle.txntree.proofs.{Changes.{first_here, walk_begins, walk_goes_on, walk_passes}, Walking.{is_spot, gone_spot, nothing_there}}
use Rattle.std.specs.{BTreeMap.is_at, Map.{lookup, keys_of}, Cmp.Lexicographic.slice_cmp, Ordering.nat_cmp, List.Sorted.IsStrictlySortedBy}
use Rattle.svnpath.specs.Paths.{Component}
use Rattle.repo_api.specs.declared.entry.Mark.TheVariants.{Open, Made}
use Rattle.treemerge.proofs.merging.+merge.Goals as goal

pub merged_change-returns-then-is_same-clause-ok : goal.merged_change-returns-then-is_same-clause-ok
merged_change-returns-then-is_same-clause-ok t c = λ told.
    let look = node_at c.args.nodes.now in
    subst (λ y. IsMergeOf look (change_spot Gone) (spot_tree look c.args.places.base) (flat look (change_spot c.args.change)) (spot_tree look y)) (c.is_same.ensures.same c.if-is_same.true)
    (cut look c.args.places.base (flat look (change_spot c.args.change)) (change_spot Gone) told (λ q. ap (λ x. flat look (change_spot x) q) (sym c.in-Gone.is)))

pub merged_change-returns-then-is_none-clause-ok : goal.merged_change-returns-then-is_none-clause-ok
merged_change-returns-then-is_none-clause-ok t c = λ told.
    let look = node_at c.args.nodes.now in
    nowhere_before look c.args.places.base c.args.places.young (flat look (change_spot c.args.change)) (sym c.if-is_none.ensures)
    (λ q. ap (λ x. flat look (change_spot x) q) c.in-Gone.is ∙ ap (λ s. flat look s q) gone_spot ∙ nothing_there look q)

pub merged_change-returns-in_ok-merged-in-Is-clause-ok : goal.merged_change-returns-in_ok-merged-in-Is-clause-ok
merged_change-returns-in_ok-merged-in-Is-clause-ok t c = λ told.
    let look = node_at c.args.nodes.now in
    let a = spot_tree look c.args.places.base in
    let y = spot_tree look c.args.places.young in
    let e = ap change_spot c.in-Is.is ∙ is_spot c.in-Is.node in
    subst (λ sp. IsMergeOf look (change_spot (Is c.in_ok-merged-in-Is.merged)) a (flat look sp) y) (sym e)
    (subst (λ sp. IsMergeOf look sp a (flat look (Opened c.in-Is.node)) y) (sym (is_spot c.in_ok-merged-in-Is.merged))
    (c.in_ok-merged-in-Is.ensures.ok (subst (λ sp. IsTold a (flat look sp)) e told)))

pub merged-returns-then-is_same-clause-ok : goal.merged-returns-then-is_same-clause-ok
merged-returns-then-is_same-clause-ok t c = λ told.
    let look = node_at c.args.nodes.now in
    subst (λ y. IsMergeOf look (Opened c.args.node) (spot_tree look c.args.places.base) (flat look (Opened c.args.node)) (spot_tree look y)) (c.is_same.ensures.same c.if-is_same.true)
    (cut look c.args.places.base (flat look (Opened c.args.node)) (Opened c.args.node) told (λ q. refl))

pub merged-loop-name-init : goal.merged-loop-name-init
merged-loop-name-init t c =
    let look = node_at c.args.nodes.now in
    let self = c.args.node in
    let gives = c.into_iter-name-iterator.ensures.into_iter_gives in
    walk_begins self c.into_iter-name-iterator.result c.new-changed.result (IsMerged look self c.args.places.base c.args.places.young)
    (subst (λ es. IsStrictlySortedBy (slice_cmp nat_cmp) (keys_of es)) (sym gives.0) gives.5)
    (λ n. ap (λ es. first_of es n) gives.0)
    (λ n. ap (λ es. lookup (is_at (slice_cmp nat_cmp n)) es) c.new-changed.ensures.empty)
    (λ n none. merged_apart look self c.args.places.base c.args.places.young n none)

pub merged-loop-name-preserved-in-Some-branch-5 : goal.merged-loop-name-preserved-in-Some-branch-5
merged-loop-name-preserved-in-Some-branch-5 t c =
    let look = node_at c.args.nodes.now in
    let self = c.args.node in
    let name = c.in-Some-2.name in
    let change = c.in-Some-2.change in
    let turn = rest_more (λ (p : Component × Change). p) c.loop-name.name-iterator c.next.new.self c.next.result (c.in-Some-2.name, c.in-Some-2.change) c.in-Some-2.is c.next.ensures.steps in
    let so = subst (λ es. IsWalking self es c.loop-name.changed (IsMerged look self c.args.places.base c.args.places.young)) turn c.loop-name.invariant in
    let there = so.among name change (sym (first_here name change c.next.new.self)) in
    walk_goes_on self name change c.next.new.self c.loop-name.changed c.put_change.new.changed (Some c.in-Some-3.kept) (IsMerged look self c.args.places.base c.args.places.young) so
    c.in_ok-put_change.ensures.ok
    (merged_here look self c.args.places.base c.args.places.young c.kid-was.result c.kid-now.result name change (Some c.in-Some-3.kept) there c.kid-was.ensures c.kid-now.ensures
    (λ told. subst (λ o. IsMergeOf look (over o (shared_spot c.kid-now.result)) (spot_tree look c.kid-was.result) (flat look (change_spot change)) (spot_tree look c.kid-now.result)) c.in-Some-3.is (c.in_ok-kept.ensures.ok told)))

pub merged-loop-name-preserved : goal.merged-loop-name-preserved
merged-loop-name-preserved t c =
    let look = node_at c.args.nodes.now in
    let self = c.args.node in
    let name = c.in-Some-2.name in
    let change = c.in-Some-2.change in
    let turn = rest_more (λ (p : Component × Change). p) c.loop-name.name-iterator c.next.new.self c.next.result (c.in-Some-2.name, c.in-Some-2.change) c.in-Some-2.is c.next.ensures.steps in
    let so = subst (λ es. IsWalking self es c.loop-name.changed (IsMerged look self c.args.places.base c.args.places.young)) turn c.loop-name.invariant in
    let there = so.among name change (sym (first_here name change c.next.new.self)) in
    walk_passes self name change c.next.new.self c.loop-name.changed (IsMerged look self c.args.places.base c.args.places.young) so
    (merged_here look self c.args.places.base c.args.places.young c.kid-was.result c.kid-now.result name change None there c.kid-was.ensures c.kid-now.ensures
    (λ told. subst (λ o. IsMergeOf look (over o (shared_spot c.kid-now.result)) (spot_tree look c.kid-was.result) (flat look (change_spot change)) (spot_tree look c.kid-now.result)) c.in_default-2.is (c.in_ok-kept.ensures.ok told)))

pub merged-returns-clause-ok : goal.merged-returns-clause-ok
merged-returns-clause-ok t c = λ told.
    let look = node_at c.args.nodes.now in
    let self = c.args.node in
    let theirs = c.in-Some.theirs.now in
    let kept = c.in-Some.ensures.kept in
    let content = c.in_ok-try_clone.ensures in
    let properties = c.in_ok-try_clone-2.ensures in
    let own = c.in_ok-clone-3.ensures.cases in
    let rest = rest_all (λ (p : Component × Change). p) c.loop-name.name-iterator c.next.new.self c.next.result c.in-None.is c.next.ensures.steps in
    merge_ends look self
    (roll-OpenNode (record { own = Made theirs.own.rev c.in_ok-clone-3.field-0; content = c.in_ok-try_clone.field-0; properties = c.in_ok-try_clone-2.field-0; base = c.args.places.young; changed = c.loop-name.changed }))
    c.args.places.base c.args.places.young kept.was theirs c.loop-name.name-iterator c.loop-name.changed
    kept.old kept.now kept.one kept.same
    (λ id i. record { content = content i; properties = properties i; own = Made theirs.own.rev (own i); last = Open }) refl refl rest c.loop-name.invariant told

pub merged-returns-in_err-kept-clause-conflict : goal.merged-returns-in_err-kept-clause-conflict
merged-returns-in_err-kept-clause-conflict t c = λ may.
    let look = node_at c.args.nodes.now in
    let self = c.args.node in
    let places = c.args.places in
    let name = c.in-Some-2.name in
    let change = c.in-Some-2.change in
    let turn = rest_more (λ (p : Component × Change). p) c.loop-name.name-iterator c.next.new.self c.next.result (c.in-Some-2.name, c.in-Some-2.change) c.in-Some-2.is c.next.ensures.steps in
    let so = subst (λ es. IsWalking self es c.loop-name.changed (IsMerged look self places.base places.young)) turn c.loop-name.invariant in
    let there = so.among name change (sym (first_here name change c.next.new.self)) in
    let kids : Places = record { base = c.kid-was.result; young = c.kid-now.result } in
    let kept = c.in-Some.ensures.kept in
    let p = err_from_is_err_and c.from_residual-in_err-kept.result c.from_residual-in_err-kept.ensures.1 in
    let above = IsConflictUnder c.args.path.now (spot_tree look places.base) (flat look (Opened self)) (spot_tree look places.young) in
    subst (λ r. IfConflict r above) (sym (p.1 ∙ ap Err p.2))
    (conflict_on (Option Change) OpenNode c.in_err-kept.field-0.0 (IsConflictUnder c.in_ok-below.below (spot_tree look kids.base) (flat look (change_spot change)) (spot_tree look kids.young)) above
    (λ at. conflict_above look self places kids c.args.path.now c.in_ok-below.below name change at there
    (c.in_ok-below.ensures ∙ ap (λ k. c.args.path.now ++ k ∷ []) c.in_ok-clone-2.ensures.cases) c.kid-was.ensures c.kid-now.ensures)
    (c.in_err-kept.ensures.conflict (mergeable_entry look self places kids name change c.args.nodes.now.kids there kept.same c.kid-was.ensures c.kid-now.ensures may)))

pub merged_change-returns-in_ok-clone-in-Gone-clause-conflict : goal.merged_change-returns-in_ok-clone-in-Gone-clause-conflict
merged_change-returns-in_ok-clone-in-Gone-clause-conflict t c = λ may.
    let look = node_at c.args.nodes.now in
    let a = spot_tree look c.args.places.base in
    let s = flat look (change_spot c.args.change) in
    let y = spot_tree look c.args.places.young in
    subst (IsConflictUnder c.args.path.now a s y) (sym c.in_ok-clone-in-Gone.ensures.cases)
    (conflict_here c.args.path.now a s y
    (gone_conflict look c.args.nodes.now.apart c.args.places.base c.args.places.young s may.base may.young (c.is_same.ensures.apart c.if-is_same.false)
    (sym c.if-is_none.ensures) (ap (λ x. flat look (change_spot x) []) c.in-Gone.is ∙ ap (λ sp. flat look sp []) gone_spot)))
