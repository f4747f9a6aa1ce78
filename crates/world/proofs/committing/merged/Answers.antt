use Rattle.std.proofs.Common.{rules, refl, sym, ap, subst, ◌∙◌}
use Rattle.std.specs.Prelude.{Err, IsErrOf}
use Rattle.repo_api.specs.States.{IsBeginning}
use Rattle.txntree.specs.Whole.{txn_tree}
use Rattle.shared_revisions.specs.{Committing.IsMerge, Contents.revisions_of, Maps.IsMapOf, declared.committing.CommitFault.TheVariants.Conflict}
use Rattle.shared_revisions.specs.declared.held.Held.{Held}
use Rattle.world.specs.Whole.{txn_map, txn_state_of}
use Rattle.world.proofs.{Keeping.told_here, Lists.{begins_on, goes_on}, Mapping.{txn_map_is, txn_sound}}
use Rattle.world.proofs.committing.merged.Goals as goal

pub moved-requires-clause-begins : goal.moved-requires-clause-begins
moved-requires-clause-begins c =
    let txn = c.args.txn.now in
    subst (λ (h : Held). IsBeginning (revisions_of h) (revisions_of c.args.held.now)) (sym c.deref.ensures)
    (begins_on (revisions_of txn.over.value) (revisions_of txn.shown.value) (revisions_of c.args.held.now)
    (goes_on (revisions_of txn.over.value) (revisions_of txn.shown.value) txn.begins) c.requires.1)

pub merged-requires-clause-told : goal.merged-requires-clause-told
merged-requires-clause-told c =
    let txn = c.args.txn.now in
    let nodes = c.args.held.now.nodes in
    let map : IsMapOf (txn_tree nodes c.in_ok-tree.tree) (txn_map txn) = λ q. txn_map_is txn q
    ∙ sym (c.in_ok-tree.ensures.0 q
    ∙ ap (λ (h : Held). txn_tree h.nodes txn.tree q) c.deref.ensures) in
    told_here c.args.held.now (txn_state_of txn) (txn_tree nodes c.in_ok-tree.tree)
    c.requires.0 c.requires.1 (txn_sound txn) map

pub returns-in-Ok : goal.returns-in-Ok
returns-in-Ok c =
    let txn = c.args.txn.now in
    let nodes = c.args.held.now.nodes in
    let map : IsMapOf (txn_tree nodes c.in_ok-tree.tree) (txn_map txn) = λ q. txn_map_is txn q
    ∙ sym (c.in_ok-tree.ensures.0 q
    ∙ ap (λ (h : Held). txn_tree h.nodes txn.tree q) c.deref.ensures) in
    (c.in-Ok.ensures (txn_map txn) map, tt, tt)

pub returns-in-Err-Conflict : goal.returns-in-Err-Conflict
returns-in-Err-Conflict c =
    let txn = c.args.txn.now in
    let nodes = c.args.held.now.nodes in
    let map : IsMapOf (txn_tree nodes c.in_ok-tree.tree) (txn_map txn) = λ q. txn_map_is txn q
    ∙ sym (c.in_ok-tree.ensures.0 q
    ∙ ap (λ (h : Held). txn_tree h.nodes txn.tree q) c.deref.ensures) in
    let refused : IsErrOf c.merged.result Conflict = search rules in
    let found : IsMerge (Err Conflict) c.args.held.now txn.base (txn_map txn) =
    subst (λ r. IsMerge r c.args.held.now txn.base (txn_map txn)) refused
    (c.merged.ensures (txn_map txn) map) in
    (tt, (refl, found), tt)
