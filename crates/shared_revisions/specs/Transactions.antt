-- The trees of open transactions, over what is held.
use Rattle.std.specs.Prelude.{◌≡◌, ℕ, Result}
use Rattle.svnpath.specs.Paths.{PathValue}
use Rattle.repo_api.specs.{Edits.edited, RightEdits.IsRightEdit, States.trees_in, Trees.Tree, declared.edit.EditOp.EditOp}
use Rattle.noderevs.specs.Held.{node_at, root_at}
use Rattle.txntree.specs.{Edits.Applies, Whole.{IsSound, KeepsSound, txn_tree}, declared.tree.TxnTree.TxnTree}
use Rattle.shared_revisions.specs.{Contents.revisions_of, declared.held.Held.Held}

-- a transaction from this base has this tree, and is sound over what is held
abbrev pub IsOver : Held → ℕ → Tree → TxnTree → Type 0
IsOver h base tree t =
    ((q : PathValue) → txn_tree h.nodes t q ≡ tree q)
    × IsSound (node_at h.nodes) (root_at h.nodes base) t

-- the edit may be made of a transaction's tree
abbrev pub IsRightOver : Held → TxnTree → EditOp → Type 0
IsRightOver h t op = IsRightEdit (trees_in (revisions_of h)) (txn_tree h.nodes t) op

-- it is made of the tree; or, where there is an error, the tree stays as it was. The tree is sound
-- where it was before
abbrev pub EditsTree : {T E : Type 0} → Result T E → Held → TxnTree → EditOp → TxnTree → Type 0
EditsTree result h old op new =
    Applies result (txn_tree h.nodes) old new (λ t. edited (trees_in (revisions_of h)) t op)
    × KeepsSound (node_at h.nodes) old new
