use Rattle.std.proofs.Common.{sym, ap, subst, ◌∙◌}
use Rattle.repo_api.specs.States.{IsBeginning}
use Rattle.txntree.specs.Whole.{txn_tree}
use Rattle.shared_revisions.specs.{Contents.revisions_of, Maps.IsMapOf, declared.held.Held.Held}
use Rattle.world.specs.Whole.{txn_map, txn_state_of}
use Rattle.world.proofs.{Keeping.told_here, Lists.{begins_on, goes_on}, Mapping.{txn_map_is, txn_sound}}
use Rattle.world.proofs.committing.conflict_in.Goals as goal

pub moved-requires-clause-begins : goal.moved-requires-clause-begins
moved-requires-clause-begins c =
    let txn = c.args.txn.now in
    subst (λ (h : Held). IsBeginning (revisions_of h) (revisions_of c.args.held.now)) (sym c.deref.ensures)
    (begins_on (revisions_of txn.over.value) (revisions_of txn.shown.value) (revisions_of c.args.held.now)
    (goes_on (revisions_of txn.over.value) (revisions_of txn.shown.value) txn.begins) c.requires.1)

pub conflict-requires-clause-told : goal.conflict-requires-clause-told
conflict-requires-clause-told c =
    let txn = c.args.txn.now in
    let nodes = c.args.held.now.nodes in
    let map : IsMapOf (txn_tree nodes c.in_ok-tree.tree) (txn_map txn) = λ q. txn_map_is txn q
    ∙ sym (c.in_ok-tree.ensures.0 q
    ∙ ap (λ (h : Held). txn_tree h.nodes txn.tree q) c.deref.ensures) in
    told_here c.args.held.now (txn_state_of txn) (txn_tree nodes c.in_ok-tree.tree)
    c.requires.0 c.requires.1 (txn_sound txn) map

pub returns : goal.returns
returns c =
    let txn = c.args.txn.now in
    let nodes = c.args.held.now.nodes in
    let map : IsMapOf (txn_tree nodes c.in_ok-tree.tree) (txn_map txn) = λ q. txn_map_is txn q
    ∙ sym (c.in_ok-tree.ensures.0 q
    ∙ ap (λ (h : Held). txn_tree h.nodes txn.tree q) c.deref.ensures) in
    c.conflict.ensures (txn_map txn) map
