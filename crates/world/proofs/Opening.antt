-- A transaction that begins, and after an edit.
use Rattle.std.proofs.Common.{◌≡◌, ◌<◌, ℕ, zero, suc, List, [], ◌∷◌, length, arith, refl, sym, ap, subst, ◌∙◌}
use Rattle.std.specs.FinMap.{get, empty, get-empty}
use Rattle.svnpath.specs.Paths.{path_cmp, PathValue}
use Rattle.repo_api.specs.{Changes.changes_after, Edits.{begun, edited}, RightEdits.IsRightEdit, Soundness.{AreSound, AreTrees}}
use Rattle.repo_api.specs.States.{ChangeMap, changes_of, IsBeginning, IsBegun, IsEdited, LockMap, Revision, tree_of, TreeMap, trees_in, TxnState, youngest}
use Rattle.repo_api.specs.{Trees.{IsTree, Tree}, declared.edit.EditOp.EditOp}
use Rattle.repo_laws.proofs.Standing.{edited_tree}
use Rattle.history_marks.specs.Sound.{IsSoundRepo, IsSoundTxn}
use Rattle.history_marks.proofs.Staying.{begun_sound, edited_sound}
use Rattle.noderevs.specs.Held.{trees_of}
use Rattle.txntree.specs.{Whole.txn_tree, declared.tree.TxnTree.TxnTree}
use Rattle.shared_revisions.specs.{Contents.{held_state, revisions_of, state_of}, Maps.{IsMapOf, Mapped, mapped}, declared.held.Held.Held}
use Rattle.shared_revisions.proofs.Seen.{held_seen}
use Rattle.world.specs.{Open.{txn_of, IsOpen}, Whole.{txn_map, txn_state_of}, declared.world_txn.WorldTxn.WorldTxn}
use Rattle.world.proofs.Mapping.{txn_map_is}

-- ---- the beginning

tree_within : (rs : List Revision) (n : ℕ) → AreTrees rs → n < length rs → IsTree (trees_in rs n)
tree_within [] n trees within = absurd (omega (arith, within))
tree_within (r ∷ rs) zero trees within = trees.0
tree_within (r ∷ rs) (suc n) trees within = tree_within rs n trees.1 (omega (arith, within))

module _ (h : Held) (base : ℕ) (tree : TxnTree) (changes : ChangeMap)
    (last : base ≡ youngest (held_state h))
    (is : (q : PathValue) → txn_tree h.nodes tree q
    ≡ begun (trees_of h.nodes (youngest (held_state h))) q)
    (none : changes ≡ empty) where
  -- with any map of its tree
  pub begun_with : (m : TreeMap) → IsMapOf (txn_tree h.nodes tree) m → (locks : LockMap)
      → IsBegun (state_of h locks) (txn_of h base m changes)
  begun_with m map locks = record {
    shown = refl;
    base = last;
    tree = λ q. map q ∙ is q
        ∙ ap (λ (t : Tree). begun t q) (λ i p. sym (held_seen h (youngest (held_state h)) p) i);
    changes = λ q. ap (λ (m : ChangeMap). get m q) none ∙ get-empty path_cmp q;
  }

  pub begun_open : ((t : Tree) → IsTree t → IsTree (begun t)) → IsSoundRepo (held_state h)
      → IsOpen h h base tree changes
  begun_open begins sound =
      let rs = revisions_of h in
      let n = youngest (held_state h) in
      let some : 0 < length rs = sound.begun in
      let is_tree : IsTree (begun (trees_in rs n)) =
      begins (trees_in rs n) (tree_within rs n sound.revisions.0 (omega (arith, some))) in
      let m : Mapped (begun (trees_in rs n)) = mapped (begun (trees_in rs n)) ∣ is_tree ∣₁ in
      let map : IsMapOf (txn_tree h.nodes tree) m.0 = λ q. m.1 q
      ∙ ap (λ (t : Tree). begun t q) (λ i p. held_seen h n p i) ∙ sym (is q) in
      record {
        map = m.0;
        is = map;
        sound = begun_sound begins (held_state h) (txn_of h base m.0 changes) sound
            (begun_with m.0 map empty);
      }

  pub begun_txn : (locks : LockMap) (t : WorldTxn) → t.shown.value ≡ h → t.over.value ≡ h → t.base ≡ base
      → t.tree ≡ tree → t.changes ≡ changes → IsBegun (state_of h locks) (txn_state_of t)
  begun_txn locks t shown over base_is tree_is changes_are =
      let map : IsMapOf (txn_tree h.nodes tree) (txn_map t) = λ q. txn_map_is t q
      ∙ (λ i. txn_tree ((over i).nodes) (tree_is i) q) in
      subst (IsBegun (state_of h locks))
      (λ i. txn_of (sym shown i) (sym base_is i) (txn_map t) (sym changes_are i))
      (begun_with (txn_map t) map locks)

-- ---- an edit of a transaction t whose tree was s, made over these nodes, as what is held now shows

module _ (over h : Held) (t : TxnState) (s : Tree) (new : TxnTree) (after : ChangeMap) (op : EditOp)
    (was : IsMapOf s t.tree)
    (tree : (q : PathValue) → txn_tree over.nodes new q ≡ edited (trees_in (revisions_of h)) s op q)
    (changes : (q : PathValue) → get after q ≡ changes_after (changes_of t.changes) op q) where
  same : (q : PathValue) → txn_tree over.nodes new q
      ≡ edited (trees_in (revisions_of h)) (tree_of t.tree) op q
  same q = tree q ∙ ap (λ (x : Tree). edited (trees_in (revisions_of h)) x op q)
      (λ i p. sym (was p) i)

  -- with any map of its tree
  pub edited_with : (m : TreeMap) → IsMapOf (txn_tree over.nodes new) m
      → IsEdited (revisions_of h) t op (txn_of h t.base m after)
  edited_with m map = record {
    shown_now = refl;
    base = refl;
    tree = λ q. map q ∙ same q;
    changes = changes;
  }

  pub edited_txn : (u : WorldTxn) → u.shown.value ≡ h → u.over.value ≡ over → u.base ≡ t.base
      → u.tree ≡ new → u.changes ≡ after → IsEdited (revisions_of h) t op (txn_state_of u)
  edited_txn u shown over_is base_is tree_is changes_are =
      let map : IsMapOf (txn_tree over.nodes new) (txn_map u) = λ q. txn_map_is u q
      ∙ (λ i. txn_tree ((over_is i).nodes) (tree_is i) q) in
      subst (IsEdited (revisions_of h) t op)
      (λ i. txn_of (sym shown i) (sym base_is i) (txn_map u) (sym changes_are i))
      (edited_with (txn_map u) map)

  pub edited_open : AreSound (revisions_of h) → IsBeginning t.shown (revisions_of h)
      → IsRightEdit (trees_in (revisions_of h)) (tree_of t.tree) op → IsSoundTxn t
      → IsOpen over h t.base new after
  edited_open sound begins right old =
      let rs = revisions_of h in
      let is_tree : IsTree (edited (trees_in rs) (tree_of t.tree) op) =
      edited_tree rs (tree_of t.tree) op sound.0 old.tree right in
      let m : Mapped (edited (trees_in rs) (tree_of t.tree) op) =
      mapped (edited (trees_in rs) (tree_of t.tree) op) ∣ is_tree ∣₁ in
      let map : IsMapOf (txn_tree over.nodes new) m.0 = λ q. m.1 q ∙ sym (same q) in
      record {
        map = m.0;
        is = map;
        sound = edited_sound rs t op (txn_of h t.base m.0 after) sound begins right
            (edited_with m.0 map) old;
      }

-- ---- an edit that was not made

pub open_stays : (over h : Held) (base : ℕ) (old new : TxnTree) (before after : ChangeMap)
    → ((q : PathValue) → txn_tree over.nodes new q ≡ txn_tree over.nodes old q) → after ≡ before
    → IsOpen over h base old before → IsOpen over h base new after
open_stays over h base old new before after stays same o = record {
  map = o.map;
  is = λ q. o.is q ∙ sym (stays q);
  sound = subst (λ cs. IsSoundTxn (txn_of h base o.map cs)) (sym same) o.sound;
}
