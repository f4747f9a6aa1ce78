-- What a commit makes, and why it was not made.
use Rattle.std.specs.Prelude.{◌≡◌, ℕ, Bool, true, false, length, Option, Result, Ok, Err}
use Rattle.svnpath.specs.Paths.{PathValue}
use Rattle.repo_api.specs.{MergedMaps.{has_conflict, IsConflict, merged_map}, States.{tree_at, TreeMap, youngest}}
use Rattle.treemerge.specs.declared.merging.MergeFault.{MergeFault}
use Rattle.treemerge.specs.declared.merging.MergeFault.TheVariants as merges
use Rattle.txntree.specs.declared.tree.TxnTree.{TxnTree}
use Rattle.shared_revisions.specs.{declared.committing.CommitFault.CommitFault, declared.held.Held.Held, Contents.{revisions_of, held_state}, Maps.IsMapOf}
use Rattle.shared_revisions.specs.Sealed.{sealed_tree}
use Rattle.shared_revisions.specs.declared.committing.CommitFault.TheVariants as commits

-- the tree of the revision that comes next, of a transaction from this base that has this tree
abbrev pub next_map : Held → ℕ → TreeMap → TreeMap
next_map h base txn =
    merged_map (length (revisions_of h)) (tree_at (held_state h) base) txn
    (tree_at (held_state h) (youngest (held_state h)))

-- others have changed since its base what such a transaction changed
abbrev pub conflicts : Held → ℕ → TreeMap → Bool
conflicts h base txn =
    has_conflict (tree_at (held_state h) base) txn
    (tree_at (held_state h) (youngest (held_state h)))

-- a path at which they have, or none where they have not
abbrev pub IsConflictIn : Held → ℕ → TreeMap → Option PathValue → Type 0
IsConflictIn h base txn o =
    IsConflict (tree_at (held_state h) base) txn
    (tree_at (held_state h) (youngest (held_state h))) o

-- why a commit was not made, by why the merge was not
abbrev pub commit_fault : MergeFault → CommitFault
commit_fault (merges.Conflict p) = commits.Conflict
commit_fault merges.NoMemory = commits.NoMemory

-- the merge of such a transaction is the tree of the revision that comes next, where nothing is in
-- conflict; or something is
abbrev pub IsMerge : Result TxnTree CommitFault → Held → ℕ → TreeMap → Type 0
IsMerge (Ok t) h base txn =
    IsMapOf (sealed_tree h.nodes t) (next_map h base txn) × (conflicts h base txn ≡ false)
IsMerge (Err commits.Conflict) h base txn = conflicts h base txn ≡ true
IsMerge (Err commits.NoMemory) h base txn = Unit {0}
