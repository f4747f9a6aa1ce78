use Rattle.std.proofs.{Common.{◌≡◌, true, Err, option_map, sym, ap, subst, ◌∙◌}, lemmas.Result.err_from_is_err_and}
use Rattle.svnpath.specs.Paths.{PathValue}
use Rattle.repo_api.specs.Merge.{is_in_conflict, merged_entry, sealed}
use Rattle.noderevs.specs.{Held.{node_at, root_at, trees_of}, Views.shared_tree}
use Rattle.txntree.specs.{declared.open.OpenNode.OpenNode, declared.tree.TxnTree.TxnTree, Spots.flat, Spots.Spot.Opened, Whole.IsSound}
use Rattle.treemerge.specs.Merges.{IsTold, spot_tree, IsConflictUnder, IfConflict, IsMergeOf}
use Rattle.treemerge.proofs.{Conflicts.{conflict_on, conflict_at_root, root_fit}, Sealed.{merged_sealed, spot_is}}
use Rattle.treemerge.proofs.merging.merge.Goals as goal

pub returns-in_err-root-clause-conflict : goal.returns-in_err-root-clause-conflict
returns-in_err-root-clause-conflict c =
    let nodes = c.args.nodes.now in
    let look = node_at nodes in
    let node = c.into_root.result in
    let a = spot_tree look c.root.result in
    let s = flat look (Opened node) in
    let y = spot_tree look c.root-2.result in
    let ea = spot_is look c.root.result ∙ ap (shared_tree look) c.root.ensures in
    let ey = spot_is look c.root-2.result ∙ ap (shared_tree look) c.root-2.ensures in
    let p = err_from_is_err_and c.from_residual.result c.from_residual.ensures.1 in
    let right = λ (n : OpenNode) (at : PathValue). is_in_conflict (trees_of nodes c.args.base at) (flat look (Opened n) at) (trees_of nodes c.args.youngest at) ≡ true in
    let sound = subst (λ (n : OpenNode). IsSound look (root_at nodes c.args.base) (record { root = n })) (sym c.into_root.ensures) c.requires.sound in
    subst (λ (n : OpenNode). IfConflict c.from_residual.result (right n)) c.into_root.ensures
    (subst (λ r. IfConflict r (right node)) (sym (p.1 ∙ ap Err p.2))
    (conflict_on OpenNode TxnTree c.in_err-root.field-0.0 (IsConflictUnder c.root-3.result a s y) (right node)
    (λ at h. ap (λ x. is_in_conflict (x at) (s at) (trees_of nodes c.args.youngest at)) (sym ea) ∙ ap (λ x. is_in_conflict (a at) (s at) (x at)) (sym ey)
    ∙ conflict_at_root a s y c.root-3.result at c.root-3.ensures h)
    (c.in_err-root.ensures.conflict (record {
      base = λ id is. nodes.roots c.args.base id (sym c.root.ensures ∙ is);
      young = λ id is. nodes.roots c.args.youngest id (sym c.root-2.ensures ∙ is);
      based = sound.based;
      over = root_fit look node c.root.result (sound.base ∙ sym c.root.ensures);
    }))))

pub returns-clause-merged : goal.returns-clause-merged
returns-clause-merged c = λ n q.
    let nodes = c.args.nodes.now in
    let look = node_at nodes in
    let a = spot_tree look c.root.result in
    let s = flat look (Opened c.args.txn.root) in
    let y = spot_tree look c.root-2.result in
    let ea = spot_is look c.root.result ∙ ap (shared_tree look) c.root.ensures in
    let ey = spot_is look c.root-2.result ∙ ap (shared_tree look) c.root-2.ensures in
    let ok = subst (λ (node : OpenNode). IsTold a (flat look (Opened node)) → IsMergeOf look (Opened c.in_ok-root.root) a (flat look (Opened node)) y)
    c.into_root.ensures c.in_ok-root.ensures.ok in
    ap (option_map (sealed n q)) (ok (subst (λ x. IsTold x s) (sym ea) c.requires.told) q).0
    ∙ merged_sealed look n q (a q) (s q) c.root-2.result
    ∙ ap (λ x. merged_entry n q (x q) (s q) (y q)) ea
    ∙ ap (λ x. merged_entry n q (trees_of nodes c.args.base q) (s q) (x q)) ey

pub returns-clause-clean : goal.returns-clause-clean
returns-clause-clean c = λ q.
    let nodes = c.args.nodes.now in
    let look = node_at nodes in
    let a = spot_tree look c.root.result in
    let s = flat look (Opened c.args.txn.root) in
    let y = spot_tree look c.root-2.result in
    let ea = spot_is look c.root.result ∙ ap (shared_tree look) c.root.ensures in
    let ey = spot_is look c.root-2.result ∙ ap (shared_tree look) c.root-2.ensures in
    let ok = subst (λ (node : OpenNode). IsTold a (flat look (Opened node)) → IsMergeOf look (Opened c.in_ok-root.root) a (flat look (Opened node)) y)
    c.into_root.ensures c.in_ok-root.ensures.ok in
    ap (λ x. is_in_conflict (x q) (s q) (trees_of nodes c.args.youngest q)) (sym ea) ∙ ap (λ x. is_in_conflict (a q) (s q) (x q)) (sym ey)
    ∙ (ok (subst (λ x. IsTold x s) (sym ea) c.requires.told) q).1
