use Rattle.std.proofs.{Common.{◌≡◌, ◌<◌, length, refl, sym, ap, subst, ◌∙◌}, Math.Logic.∥∥₁_map₂, lemmas.Result.err_from_is_err_and}
use Rattle.std.specs.Prelude.{Option}
use Rattle.svnpath.specs.Paths.{PathValue}
use Rattle.repo_api.specs.{Edits.edited, RightEdits.IsRightEdit, States.{IsBeginning, trees_in}}
use Rattle.noderevs.specs.{Held.{node_at, root_at}, declared.node_rev.NodeId.NodeId}
use Rattle.txntree.specs.Whole.{IsSound, txn_tree}
use Rattle.shared_revisions.specs.{Contents.revisions_of, Maps.IsMapOf, declared.held.Held.Held}
use Rattle.world.specs.{Open.IsOpen, Whole.{txn_map, txn_state_of}}
use Rattle.world.proofs.{Lists.{begins_itself, begins_on, goes_on, still_within}, Mapping.{state_stays, txn_map_is, txn_sound}}
use Rattle.world.proofs.Opening.{edited_open, edited_txn}
use Rattle.world.proofs.editing.edit_there.Goals as goal

pub moved-requires-clause-begins : goal.moved-requires-clause-begins
moved-requires-clause-begins c =
    let old = c.args.txn.now in
    let h = c.args.held.now.value in
    subst (λ (x : Held). IsBeginning (revisions_of x) (revisions_of c.deref.result.now)) (sym c.deref-2.ensures)
    (subst (λ (x : Held). IsBeginning (revisions_of old.over.value) (revisions_of x)) (sym c.deref.ensures)
    (begins_on (revisions_of old.over.value) (revisions_of old.shown.value) (revisions_of h) (goes_on (revisions_of old.over.value) (revisions_of old.shown.value) old.begins) c.requires.rests.1))

pub edit_parts-requires : goal.edit_parts-requires
edit_parts-requires c =
    let old = c.args.txn.now in
    let h = c.args.held.now.value in
    let tree = c.in_ok-tree.tree in
    let was : IsMapOf (txn_tree h.nodes tree) (txn_map old) = λ q. txn_map_is old q
    ∙ sym (sym (ap (λ (x : Held). txn_tree x.nodes tree q) c.deref.ensures)
    ∙ c.in_ok-tree.ensures.0 q
    ∙ ap (λ (y : Held). txn_tree y.nodes old.tree q) c.deref-2.ensures) in
    subst (λ (x : Held). IsRightEdit (trees_in (revisions_of x)) (txn_tree x.nodes tree)
    c.args.op.now) (sym c.deref-3.ensures)
    (subst (λ s. IsRightEdit (trees_in (revisions_of h)) s c.args.op.now) (λ i q. was q i)
    c.requires.right)

pub invariant_of-txn-2 : goal.invariant_of-txn-2
invariant_of-txn-2 c =
    let old = c.args.txn.now in
    let h = c.args.held.now.value in
    let tree = c.in_ok-tree.tree in
    let new = c.edit_parts.new.tree in
    let shown = c.in_ok-shown.shown in
    let over = c.in_ok-over.over in
    let e : shown.value ≡ h = c.in_ok-shown.ensures in
    let e2 : over.value ≡ h = c.in_ok-over.ensures in
    let was : IsMapOf (txn_tree h.nodes tree) (txn_map old) = λ q. txn_map_is old q
    ∙ sym (sym (ap (λ (x : Held). txn_tree x.nodes tree q) c.deref.ensures)
    ∙ c.in_ok-tree.ensures.0 q
    ∙ ap (λ (y : Held). txn_tree y.nodes old.tree q) c.deref-2.ensures) in
    let made : (q : PathValue) → txn_tree h.nodes new q
    ≡ edited (trees_in (revisions_of h)) (txn_tree h.nodes tree) c.args.op.now q =
    subst (λ (x : Held). (q : PathValue) → txn_tree x.nodes new q
    ≡ edited (trees_in (revisions_of x)) (txn_tree x.nodes tree) c.args.op.now q)
    c.deref-3.ensures c.in_ok-edit_parts.ensures.tree.0 in
    let stands : (root : Option NodeId) → IsSound (node_at h.nodes) root tree
    → IsSound (node_at h.nodes) root new =
    subst (λ (x : Held). (root : Option NodeId) → IsSound (node_at x.nodes) root tree
    → IsSound (node_at x.nodes) root new) c.deref-3.ensures c.edit_parts.ensures.tree.1 in
    let stood : IsSound (node_at h.nodes) (root_at h.nodes old.base) tree =
    subst (λ (x : Held). IsSound (node_at x.nodes) (root_at x.nodes old.base) tree)
    c.deref.ensures c.in_ok-tree.ensures.1 in
    record {
      begins = begins_itself (revisions_of over.value) (revisions_of shown.value) (ap revisions_of (e ∙ sym e2));
      within = subst (λ (x : Held). old.base < length (revisions_of x)) (sym e2)
          (still_within (revisions_of old.over.value) (revisions_of h)
          (begins_on (revisions_of old.over.value) (revisions_of old.shown.value) (revisions_of h) (goes_on (revisions_of old.over.value) (revisions_of old.shown.value) old.begins) c.requires.rests.1)
          old.base old.within);
      standing = subst (λ (x : Held). IsSound (node_at x.nodes) (root_at x.nodes old.base) new)
          (sym e2) (stands (root_at h.nodes old.base) stood);
      sound = ∥∥₁_map₂ c.requires.rests.0 (txn_sound old) (λ s t.
          subst (λ (x : Held). IsOpen over.value x old.base new c.edit_parts.new.changes) (sym e)
          (subst (λ (x : Held). IsOpen x h old.base new c.edit_parts.new.changes) (sym e2)
          (edited_open h h (txn_state_of old) (txn_tree h.nodes tree) new
          c.edit_parts.new.changes c.args.op.now was made
          c.in_ok-edit_parts.ensures.changes s.revisions c.requires.rests.1
          c.requires.right t)));
    }

pub returns-in_err-tree : goal.returns-in_err-tree
returns-in_err-tree c =
    let old = c.args.txn.now in
    let residual = c.from_residual-in_err-tree in
    let p = err_from_is_err_and residual.result residual.ensures.1 in
    rw (p.1) (state_stays old (record {
      shown = old.shown;
      over = old.over;
      base = old.base;
      tree = old.tree;
      changes = old.changes;
      begins = c.in_err-tree.txn-1-own.given.0;
      within = c.in_err-tree.txn-1-own.given.1.0;
      standing = c.in_err-tree.txn-1-own.given.1.1.0;
      sound = c.in_err-tree.txn-1-own.given.1.1.1.0;
    }) refl refl (λ q. refl) refl)

pub returns-in_err-edit_parts : goal.returns-in_err-edit_parts
returns-in_err-edit_parts c =
    let old = c.args.txn.now in
    let residual = c.from_residual-in_err-edit_parts in
    let p = err_from_is_err_and residual.result residual.ensures.1 in
    rw (p.1) (state_stays old (record {
      shown = old.shown;
      over = old.over;
      base = old.base;
      tree = old.tree;
      changes = c.edit_parts.new.changes;
      begins = c.in_err-edit_parts.txn-in-Break-branch-4-1-own.given.0;
      within = c.in_err-edit_parts.txn-in-Break-branch-4-1-own.given.1.0;
      standing = c.in_err-edit_parts.txn-in-Break-branch-4-1-own.given.1.1.0;
      sound = c.in_err-edit_parts.txn-in-Break-branch-4-1-own.given.1.1.1.0;
    }) refl refl (λ q. refl) c.in_err-edit_parts.ensures.changes)

pub returns : goal.returns
returns c =
    let old = c.args.txn.now in
    let h = c.args.held.now.value in
    let tree = c.in_ok-tree.tree in
    let new = c.edit_parts.new.tree in
    let was : IsMapOf (txn_tree h.nodes tree) (txn_map old) = λ q. txn_map_is old q
    ∙ sym (sym (ap (λ (x : Held). txn_tree x.nodes tree q) c.deref.ensures)
    ∙ c.in_ok-tree.ensures.0 q
    ∙ ap (λ (y : Held). txn_tree y.nodes old.tree q) c.deref-2.ensures) in
    let made : (q : PathValue) → txn_tree h.nodes new q
    ≡ edited (trees_in (revisions_of h)) (txn_tree h.nodes tree) c.args.op.now q =
    subst (λ (x : Held). (q : PathValue) → txn_tree x.nodes new q
    ≡ edited (trees_in (revisions_of x)) (txn_tree x.nodes tree) c.args.op.now q)
    c.deref-3.ensures c.in_ok-edit_parts.ensures.tree.0 in
    edited_txn h h (txn_state_of old) (txn_tree h.nodes tree) new c.edit_parts.new.changes
    c.args.op.now was made c.in_ok-edit_parts.ensures.changes
    (record {
      shown = c.in_ok-shown.shown;
      over = c.in_ok-over.over;
      base = old.base;
      tree = new;
      changes = c.edit_parts.new.changes;
      begins = c.txn-2-1.given.0;
      within = c.txn-2-1.given.1.0;
      standing = c.txn-2-1.given.1.1.0;
      sound = c.txn-2-1.given.1.1.1.0;
    }) c.in_ok-shown.ensures c.in_ok-over.ensures refl refl refl
