use Rattle.std.proofs.{Common.{◌≡◌, refl, sym, subst, ◌∙◌}, Math.Logic.{∥∥₁_map, ∥∥₁_map₂}, lemmas.Result.err_from_is_err_and}
use Rattle.std.specs.Prelude.{Option}
use Rattle.svnpath.specs.Paths.{PathValue}
use Rattle.repo_api.specs.{Edits.edited, RightEdits.IsRightEdit, States.{tree_of, trees_in}}
use Rattle.noderevs.specs.{Held.{node_at, root_at}, declared.node_rev.NodeId.NodeId}
use Rattle.txntree.specs.Whole.{IsSound, txn_tree}
use Rattle.shared_revisions.specs.{Contents.revisions_of, declared.held.Held.Held}
use Rattle.world.specs.{Open.{Begins, IsOpen}, Whole.{txn_map, txn_state_of}}
use Rattle.world.proofs.{Lists.{begins, begins_on, goes_on}, Mapping.{right_over, state_stays, txn_map_is, txn_sound}}
use Rattle.world.proofs.Opening.{edited_open, edited_txn, open_stays}
use Rattle.world.proofs.editing.edit_here.Goals as goal

pub edit_parts-requires : goal.edit_parts-requires
edit_parts-requires c =
    let old = c.args.txn.now in
    subst (λ (x : Held). IsRightEdit (trees_in (revisions_of x)) (txn_tree x.nodes old.tree) c.args.op.now)
    (sym c.deref.ensures)
    (right_over old (trees_in (revisions_of old.over.value)) c.args.op.now
    (c.requires.alike.right (tree_of (txn_map old)) c.requires.right))

pub invariant_of-txn : goal.invariant_of-txn
invariant_of-txn c =
    let old = c.args.txn.now in
    let over = old.over.value in
    let new = c.edit_parts.new.tree in
    let stands : (root : Option NodeId) → IsSound (node_at over.nodes) root old.tree
    → IsSound (node_at over.nodes) root new =
    subst (λ (x : Held). (root : Option NodeId) → IsSound (node_at x.nodes) root old.tree
    → IsSound (node_at x.nodes) root new) c.deref.ensures c.edit_parts.ensures.tree.1 in
    let stays : (q : PathValue) → txn_tree over.nodes new q ≡ txn_tree over.nodes old.tree q =
    subst (λ (x : Held). (q : PathValue) → txn_tree x.nodes new q ≡ txn_tree x.nodes old.tree q)
    c.deref.ensures c.in_err-edit_parts.ensures.tree.0 in
    record {
      begins = old.begins;
      within = old.within;
      standing = stands (root_at over.nodes old.base) old.standing;
      sound = ∥∥₁_map old.sound (open_stays over old.shown.value old.base old.tree new
          old.changes c.edit_parts.new.changes stays c.in_err-edit_parts.ensures.changes);
    }

pub returns-in_err-edit_parts : goal.returns-in_err-edit_parts
returns-in_err-edit_parts c =
    let old = c.args.txn.now in
    let over = old.over.value in
    let new = c.edit_parts.new.tree in
    let stays : (q : PathValue) → txn_tree over.nodes new q ≡ txn_tree over.nodes old.tree q =
    subst (λ (x : Held). (q : PathValue) → txn_tree x.nodes new q ≡ txn_tree x.nodes old.tree q)
    c.deref.ensures c.in_err-edit_parts.ensures.tree.0 in
    let residual = c.from_residual-in_err-edit_parts in
    let p = err_from_is_err_and residual.result residual.ensures.1 in
    rw (p.1) (state_stays old (record {
      shown = old.shown;
      over = old.over;
      base = old.base;
      tree = new;
      changes = c.edit_parts.new.changes;
      begins = c.in_err-edit_parts.txn-1-own.given.0;
      within = c.in_err-edit_parts.txn-1-own.given.1.0;
      standing = c.in_err-edit_parts.txn-1-own.given.1.1.0;
      sound = c.in_err-edit_parts.txn-1-own.given.1.1.1.0;
    }) refl refl stays c.in_err-edit_parts.ensures.changes)

pub invariant_of-txn-2 : goal.invariant_of-txn-2
invariant_of-txn-2 c =
    let old = c.args.txn.now in
    let over = old.over.value in
    let h = c.args.held.now.value in
    let new = c.edit_parts.new.tree in
    let after = c.edit_parts.new.changes in
    let e : c.in_ok-shown.shown.value ≡ h = c.in_ok-shown.ensures in
    let stands : (root : Option NodeId) → IsSound (node_at over.nodes) root old.tree
    → IsSound (node_at over.nodes) root new =
    subst (λ (x : Held). (root : Option NodeId) → IsSound (node_at x.nodes) root old.tree
    → IsSound (node_at x.nodes) root new) c.deref.ensures c.edit_parts.ensures.tree.1 in
    let made : (q : PathValue) → txn_tree over.nodes new q
    ≡ edited (trees_in (revisions_of h)) (txn_tree over.nodes old.tree) c.args.op.now q = λ q.
    subst (λ (x : Held). txn_tree x.nodes new q
    ≡ edited (trees_in (revisions_of x)) (txn_tree x.nodes old.tree) c.args.op.now q)
    c.deref.ensures (c.in_ok-edit_parts.ensures.tree.0 q)
    ∙ c.requires.alike.same (txn_tree over.nodes old.tree) q in
    record {
      begins = subst (Begins over) (sym e) (begins (revisions_of over) (revisions_of h)
          (begins_on (revisions_of over) (revisions_of old.shown.value) (revisions_of h)
          (goes_on (revisions_of over) (revisions_of old.shown.value) old.begins) c.requires.rests.1));
      within = old.within;
      standing = stands (root_at over.nodes old.base) old.standing;
      sound = ∥∥₁_map₂ c.requires.rests.0 (txn_sound old) (λ s t.
          subst (λ (x : Held). IsOpen over x old.base new after) (sym e)
          (edited_open over h (txn_state_of old) (txn_tree over.nodes old.tree) new after
          c.args.op.now (txn_map_is old) made c.in_ok-edit_parts.ensures.changes s.revisions
          c.requires.rests.1 c.requires.right t));
    }

pub returns : goal.returns
returns c =
    let old = c.args.txn.now in
    let over = old.over.value in
    let h = c.args.held.now.value in
    let new = c.edit_parts.new.tree in
    let made : (q : PathValue) → txn_tree over.nodes new q
    ≡ edited (trees_in (revisions_of h)) (txn_tree over.nodes old.tree) c.args.op.now q = λ q.
    subst (λ (x : Held). txn_tree x.nodes new q
    ≡ edited (trees_in (revisions_of x)) (txn_tree x.nodes old.tree) c.args.op.now q)
    c.deref.ensures (c.in_ok-edit_parts.ensures.tree.0 q)
    ∙ c.requires.alike.same (txn_tree over.nodes old.tree) q in
    edited_txn over h (txn_state_of old) (txn_tree over.nodes old.tree) new
    c.edit_parts.new.changes c.args.op.now (txn_map_is old) made
    c.in_ok-edit_parts.ensures.changes
    (record {
      shown = c.in_ok-shown.shown;
      over = old.over;
      base = old.base;
      tree = new;
      changes = c.edit_parts.new.changes;
      begins = c.txn-2-1.given.0;
      within = c.txn-2-1.given.1.0;
      standing = c.txn-2-1.given.1.1.0;
      sound = c.txn-2-1.given.1.1.1.0;
    }) c.in_ok-shown.ensures refl refl refl refl
