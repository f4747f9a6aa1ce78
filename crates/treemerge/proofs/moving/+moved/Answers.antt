use Rattle.std.proofs.{Common.{Some, refl, sym, ap, subst, ◌∙◌}, lemmas.Map.Iter.{rest_more, rest_all}}
use Rattle.std.specs.{Prelude.if◌then◌else◌, BTreeMap.is_at, Cmp.Lexicographic.slice_cmp, List.Sorted.IsStrictlySortedBy, Map.{lookup, keys_of}}
use Rattle.std.specs.{Map.Iter.deref_pair, Ordering.nat_cmp}
use Rattle.repo_api.specs.declared.entry.Mark.TheVariants.{Open}
use Rattle.svnpath.specs.Paths.{same_component}
use Rattle.txntree.specs.{Changes.{first_of, IsWalking}, Spots.{change_spot, changed_at}, declared.open.Change.TheViews.roll-OpenNode}
use Rattle.txntree.proofs.{Changes.{first_here, walk_begins, walk_goes_on}, Walking.{gone_spot, is_spot}}
use Rattle.treemerge.specs.Moves.{IsMovedAt}
use Rattle.treemerge.proofs.Twins.{unchanged_moved, change_moved, node_moved, gone_moved, gone_made, is_made, is_moved}
use Rattle.treemerge.proofs.moving.+moved.Goals as goal

pub moved-loop-name-init : goal.moved-loop-name-init
moved-loop-name-init t c =
    let self = c.args.node.now in
    let gives = c.into_iter-name-iterator.ensures.into_iter_gives in
    walk_begins self c.into_iter-name-iterator.result c.new-changed.result (IsMovedAt c.args.from.now c.args.to.now self c.args.base)
    (subst (λ es. IsStrictlySortedBy (slice_cmp nat_cmp) (keys_of es)) (sym gives.0) gives.5)
    (λ n. ap (λ es. first_of es n) gives.0)
    (λ n. ap (λ es. lookup (is_at (slice_cmp nat_cmp n)) es) c.new-changed.ensures.empty)
    (λ n none. unchanged_moved c.args.from.now c.args.to.now self c.args.base n none)

pub moved-loop-name-preserved : goal.moved-loop-name-preserved
moved-loop-name-preserved t c =
    let self = c.args.node.now in
    let from = c.args.from.now in
    let to = c.args.to.now in
    let name = c.in-Some.name.now in
    let change = c.in-Some.change.now in
    let copy = c.in_ok-moved_change.field-0 in
    let P = IsMovedAt from to self c.args.base in
    let turn = rest_more deref_pair c.loop-name.name-iterator c.next.new.self c.next.result (c.in-Some.name, c.in-Some.change) c.in-Some.is c.next.ensures.steps in
    let so = subst (λ es. IsWalking self es c.loop-name.changed P) turn c.loop-name.invariant in
    walk_goes_on self name change c.next.new.self c.loop-name.changed c.put_change.new.changed (Some copy) P so
    (λ n. c.in_ok-put_change.ensures.ok n ∙ ap (λ k. if same_component k n then Some copy else changed_at c.loop-name.changed n) c.in_ok-clone.ensures.cases)
    (change_moved from to self c.args.base name change copy (so.among name change (sym (first_here name change c.next.new.self)))
    c.in_ok-moved_change.ensures.made c.in_ok-moved_change.ensures.moved)

pub moved-returns-clause-moved : goal.moved-returns-clause-moved
moved-returns-clause-moved t c = λ have based is.
    let rest = rest_all deref_pair c.loop-name.name-iterator c.next.new.self c.next.result c.in-None.is c.next.ensures.steps in
    let content = c.in_ok-try_clone.ensures in
    let properties = c.in_ok-try_clone-2.ensures in
    let own = c.in_ok-clone-2.ensures.cases in
    node_moved c.args.from.now c.args.to.now c.args.node.now
    (roll-OpenNode (record { own = c.in_ok-clone-2.field-0; content = c.in_ok-try_clone.field-0; properties = c.in_ok-try_clone-2.field-0; base = c.args.base; changed = c.loop-name.changed }))
    c.args.base c.loop-name.name-iterator
    (λ i. record { content = content i; properties = properties i; own = own i; last = Open }) refl rest c.loop-name.invariant have based is

pub moved_change-returns-in-Gone-clause-made : goal.moved_change-returns-in-Gone-clause-made
moved_change-returns-in-Gone-clause-made t c = gone_made c.args.from.now c.args.to.now c.args.change.now

pub moved_change-returns-in-Gone-clause-moved : goal.moved_change-returns-in-Gone-clause-moved
moved_change-returns-in-Gone-clause-moved t c = λ have based.
    gone_moved c.args.from.now c.args.to.now c.args.change.now (ap change_spot c.in-Gone.is ∙ gone_spot)

pub moved_change-returns-in_ok-copy-in-Is-clause-made : goal.moved_change-returns-in_ok-copy-in-Is-clause-made
moved_change-returns-in_ok-copy-in-Is-clause-made t c =
    is_made c.args.from.now c.args.to.now c.args.change.now c.in-Is.node c.in_ok-copy-in-Is.copy (ap change_spot c.in-Is.is ∙ is_spot c.in-Is.node)
    c.in_ok-copy-in-Is.ensures.own (c.in_ok-copy-in-Is.ensures.base ∙ c.twin.ensures)

pub moved_change-returns-in_ok-copy-in-Is-clause-moved : goal.moved_change-returns-in_ok-copy-in-Is-clause-moved
moved_change-returns-in_ok-copy-in-Is-clause-moved t c = λ have based.
    is_moved c.args.from.now c.args.to.now c.args.change.now c.in-Is.node c.in_ok-copy-in-Is.copy c.twin.result (ap change_spot c.in-Is.is ∙ is_spot c.in-Is.node)
    c.twin.ensures have based (c.in_ok-copy-in-Is.ensures.moved have)
