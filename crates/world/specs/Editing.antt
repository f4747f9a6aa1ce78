-- An edit of a transaction.
use Rattle.std.specs.Prelude.{◌≡◌, Bool, true, false}
use Rattle.svnpath.specs.Paths.{PathValue}
use Rattle.repo_api.specs.{Edits.edited, RightEdits.IsRightEdit, States.{IsBeginning, tree_of, trees_in}, Trees.Tree, declared.edit.EditOp.EditOp}
use Rattle.repo_api.specs.declared.edit.EditOp.TheVariants.{Copy, Replace}
use Rattle.history_marks.specs.Sound.{IsSoundRepo}
use Rattle.shared_revisions.specs.{Contents.{held_state, revisions_of}, declared.held.Held.Held}
use Rattle.world.specs.{Whole.txn_state_of, declared.world_txn.WorldTxn.WorldTxn}

-- what is held is sound, and goes on from what the transaction was last shown
abbrev pub RestsOn : WorldTxn → Held → Type 0
RestsOn txn h =
    ∥ IsSoundRepo (held_state h) ∥₁ × IsBeginning (txn_state_of txn).shown (revisions_of h)

-- the edit may be made of the transaction, over what is held
abbrev pub IsRightFor : Held → WorldTxn → EditOp → Type 0
IsRightFor h txn op =
    IsRightEdit (trees_in (revisions_of h)) (tree_of (txn_state_of txn).tree) op

-- it takes what a revision has
abbrev pub is_copy : EditOp → Bool
is_copy (Copy source p) = true
is_copy (Replace source p) = true
is_copy _ = false

-- an edit may be made of a tree, and comes to the same, over the revisions of the one and of the other
pub record AreAlikeFor (op : EditOp) (over h : Held) : Type 0 where
  pub right : (t : Tree) → IsRightEdit (trees_in (revisions_of h)) t op
      → IsRightEdit (trees_in (revisions_of over)) t op
  pub same : (t : Tree) (q : PathValue)
      → edited (trees_in (revisions_of over)) t op q ≡ edited (trees_in (revisions_of h)) t op q
