-- The one map of a transaction's tree, and what is sound with it.
use Rattle.std.proofs.{Common.{◌≡◌, ℕ, sym, ap, subst, ◌∙◌}, Math.Logic.∥∥₁_map}
use Rattle.svnpath.specs.Paths.{PathValue}
use Rattle.repo_api.specs.{RightEdits.IsRightEdit, StateLaws.same_tree, States.{tree_of, TreeMap}, Trees.Tree, declared.edit.EditOp.EditOp}
use Rattle.history_marks.specs.Sound.{IsSoundTxn}
use Rattle.txntree.specs.Whole.{txn_tree}
use Rattle.shared_revisions.specs.Maps.{IsMapOf, Mapped, one_map}
use Rattle.world.specs.{Open.txn_of, Whole.{the_map, txn_map, txn_state_of}, declared.world_txn.WorldTxn.WorldTxn}

pub the_map_is : (t : Tree) (mapped : ∥ Mapped t ∥₁) (m : TreeMap) → IsMapOf t m
    → (the_map t mapped).0 ≡ m
the_map_is t mapped m is = ap (λ x. x.0) (one_map t (the_map t mapped) (m, is))

-- what stands at each path of a transaction
pub txn_map_is : (t : WorldTxn) → IsMapOf (txn_tree t.over.value.nodes t.tree) (txn_map t)
txn_map_is t =
    (the_map (txn_tree t.over.value.nodes t.tree) (∥∥₁_map t.sound (λ o. (o.map, o.is)))).1

pub txn_sound : (t : WorldTxn) → ∥ IsSoundTxn (txn_state_of t) ∥₁
txn_sound t = ∥∥₁_map t.sound (λ o.
    subst (λ m. IsSoundTxn (txn_of t.shown.value t.base m t.changes))
    (sym (the_map_is (txn_tree t.over.value.nodes t.tree)
    (∥∥₁_map t.sound (λ x. (x.map, x.is))) o.map o.is))
    o.sound)

-- transactions with the same at each path have one map
pub map_stays : (old new : WorldTxn)
    → ((q : PathValue) → txn_tree new.over.value.nodes new.tree q
    ≡ txn_tree old.over.value.nodes old.tree q)
    → txn_map new ≡ txn_map old
map_stays old new stays =
    same_tree (txn_map new) (txn_map old)
    (λ q. txn_map_is new q ∙ stays q ∙ sym (txn_map_is old q))

-- an edit may be made of a transaction's tree where it may be made of its map
pub right_over : (t : WorldTxn) (trees : ℕ → Tree) (op : EditOp)
    → IsRightEdit trees (tree_of (txn_map t)) op
    → IsRightEdit trees (txn_tree t.over.value.nodes t.tree) op
right_over t trees op right =
    subst (λ s. IsRightEdit trees s op) (λ i q. txn_map_is t q i) right

-- transactions of one base with the same at each path and the same changes are one
pub state_stays : (old new : WorldTxn) → new.shown.value ≡ old.shown.value → new.base ≡ old.base
    → ((q : PathValue) → txn_tree new.over.value.nodes new.tree q
    ≡ txn_tree old.over.value.nodes old.tree q)
    → new.changes ≡ old.changes → txn_state_of new ≡ txn_state_of old
state_stays old new shown base stays changes =
    λ i. txn_of (shown i) (base i) (map_stays old new stays i) (changes i)
