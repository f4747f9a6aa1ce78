use Rattle.std.proofs.{Common.{◌≡◌, ◌<◌, length, refl, sym, ap, subst, ◌∙◌}, Math.Logic.∥∥₁_map}
use Rattle.svnpath.specs.Paths.{PathValue}
use Rattle.repo_api.specs.{Edits.begun, States.youngest}
use Rattle.noderevs.specs.Held.{node_at, root_at, trees_of}
use Rattle.txntree.specs.Whole.{IsSound, txn_tree}
use Rattle.shared_revisions.specs.{Contents.{held_state, revisions_of}, declared.held.Held.Held}
use Rattle.world.specs.Open.{IsOpen}
use Rattle.world.proofs.{Lists.begins_itself, Opening.{begun_open, begun_txn}}
use Rattle.world.proofs.repository.WorldRepository.begin.Goals as goal

pub invariant_of-result : goal.invariant_of-result
invariant_of-result c =
    let h = c.args.self.now.held.value in
    let base = c.youngest.result in
    let tree = c.in_ok-tree.tree in
    let shown = c.in_ok-try_clone.field-0 in
    let over = c.in_ok-try_clone-2.field-0 in
    let e : shown.value ≡ h = c.in_ok-try_clone.ensures in
    let e2 : over.value ≡ h = c.in_ok-try_clone-2.ensures in
    let last : base ≡ youngest (held_state h) =
    c.youngest.ensures.is ∙ ap (λ (x : Held). youngest (held_state x)) c.deref-2.ensures in
    let is : (q : PathValue) → txn_tree h.nodes tree q
    ≡ begun (trees_of h.nodes (youngest (held_state h))) q =
    subst (λ (x : Held). (q : PathValue) → txn_tree x.nodes tree q
    ≡ begun (trees_of x.nodes (youngest (held_state x))) q)
    c.deref.ensures c.in_ok-tree.ensures.0 in
    let stands : IsSound (node_at h.nodes) (root_at h.nodes base) tree =
    subst (λ n. IsSound (node_at h.nodes) (root_at h.nodes n) tree) (sym last)
    (subst (λ (x : Held). IsSound (node_at x.nodes)
    (root_at x.nodes (youngest (held_state x))) tree)
    c.deref.ensures c.in_ok-tree.ensures.1) in
    record {
      begins = begins_itself (revisions_of over.value) (revisions_of shown.value) (ap revisions_of (e ∙ sym e2));
      within = subst (λ (x : Held). base < length (revisions_of x))
          (c.deref-2.ensures ∙ sym e2) c.youngest.ensures.within;
      standing = subst (λ (x : Held). IsSound (node_at x.nodes) (root_at x.nodes base) tree)
          (sym e2) stands;
      sound = ∥∥₁_map c.args.self.now.sound (λ s.
          subst (λ (x : Held). IsOpen over.value x base tree c.new.result) (sym e)
          (subst (λ (x : Held). IsOpen x h base tree c.new.result) (sym e2)
          (begun_open h base tree c.new.result last is c.new.ensures
          c.beginnings_are_trees.ensures s)));
    }

pub returns : goal.returns
returns c =
    let h = c.args.self.now.held.value in
    let base = c.youngest.result in
    let tree = c.in_ok-tree.tree in
    let shown = c.in_ok-try_clone.field-0 in
    let over = c.in_ok-try_clone-2.field-0 in
    let e : shown.value ≡ h = c.in_ok-try_clone.ensures in
    let e2 : over.value ≡ h = c.in_ok-try_clone-2.ensures in
    let last : base ≡ youngest (held_state h) =
    c.youngest.ensures.is ∙ ap (λ (x : Held). youngest (held_state x)) c.deref-2.ensures in
    let is : (q : PathValue) → txn_tree h.nodes tree q
    ≡ begun (trees_of h.nodes (youngest (held_state h))) q =
    subst (λ (x : Held). (q : PathValue) → txn_tree x.nodes tree q
    ≡ begun (trees_of x.nodes (youngest (held_state x))) q)
    c.deref.ensures c.in_ok-tree.ensures.0 in
    begun_txn h base tree c.new.result last is c.new.ensures c.args.self.now.locks.value
    (record {
      shown = shown;
      over = over;
      base = base;
      tree = tree;
      changes = c.new.result;
      begins = c.result-2-1.given.0;
      within = c.result-2-1.given.1.0;
      standing = c.result-2-1.given.1.1.0;
      sound = c.result-2-1.given.1.1.1.0;
    }) e e2 refl refl refl
