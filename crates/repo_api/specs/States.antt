-- What a repository contains, and what a transaction is.
use Rattle.std.specs.{Prelude.{◌≡◌, ℕ, ◌-◌, List, ◌++◌, Option, Some, None, Result, MatchResult, length, slice_get}, FinMap.{FinMap, get, empty}}
use Rattle.svnpath.specs.Paths.{path_cmp, PathValue}
use Rattle.repo_api.specs.{Properties.PropertyList, Trees.Tree, Changes.{Changes, changes_after}, Edits.{edited, begun}, declared.entry.Entry.Entry}
use Rattle.repo_api.specs.{declared.change.Change.Change, declared.edit.EditOp.EditOp, declared.lock.Lock.Lock}

-- the entries of a tree, the changes of a revision and the locks, by their paths
abbrev pub TreeMap : Type 0
TreeMap = FinMap path_cmp Entry

abbrev pub ChangeMap : Type 0
ChangeMap = FinMap path_cmp Change

abbrev pub LockMap : Type 0
LockMap = FinMap path_cmp Lock

-- what stands at each path of a map
abbrev pub tree_of : TreeMap → Tree
tree_of m p = get m p

abbrev pub changes_of : ChangeMap → Changes
changes_of m p = get m p

-- what never changes of a revision
pub record Revision : Type 0 where
  pub tree : TreeMap
  pub changes : ChangeMap

-- a repository: its name among all repositories, its revisions from 0 on, the properties of each,
-- its locks
pub record RepoState : Type 0 where
  pub uuid : ℕ
  pub revisions : List Revision
  pub properties : List PropertyList
  pub locks : LockMap

-- an open transaction
pub record TxnState : Type 0 where
  -- the revisions that it was last shown
  pub shown : List Revision
  -- the revision that it began from
  pub base : ℕ
  pub tree : TreeMap
  pub changes : ChangeMap

-- the number of the youngest revision
abbrev pub youngest : RepoState → ℕ
youngest c = length c.revisions - 1

abbrev pub tree_in : Option Revision → TreeMap
tree_in None = empty
tree_in (Some r) = r.tree

-- the tree of each revision; a number that is none has no entries
abbrev pub trees_in : List Revision → ℕ → Tree
trees_in revisions n = tree_of (tree_in (slice_get revisions n))

-- the tree of a revision; a number that is none has no entries
abbrev pub tree_at : RepoState → ℕ → TreeMap
tree_at c n = tree_in (slice_get c.revisions n)

-- the old list begins the new one
pub record IsBeginning (old new : List Revision) : Type 0 where
  pub more : List Revision
  pub is : new ≡ old ++ more

-- a transaction that begins at the youngest revision
pub record IsBegun (c : RepoState) (t : TxnState) : Type 0 where
  pub shown : t.shown ≡ c.revisions
  pub base : t.base ≡ youngest c
  pub tree : (p : PathValue) → get t.tree p ≡ begun (tree_of (tree_at c (youngest c))) p
  pub changes : (p : PathValue) → get t.changes p ≡ None

-- the transaction after an edit, over the revisions shown: by what stands at each path
pub record IsEdited (shown : List Revision) (old : TxnState) (op : EditOp)
    (new : TxnState) : Type 0 where
  pub shown_now : new.shown ≡ shown
  pub base : new.base ≡ old.base
  pub tree : (p : PathValue) → get new.tree p ≡ edited (trees_in shown) (tree_of old.tree) op p
  pub changes : (p : PathValue) → get new.changes p ≡ changes_after (changes_of old.changes) op p

-- the edit is made; where there is an error, the transaction stays as it was
abbrev pub EditsTxn : {T E : Type 0} → Result T E → List Revision → TxnState → EditOp → TxnState
    → Type 0
EditsTxn result shown old op new =
    MatchResult result (λ _. IsEdited shown old op new) (λ _. new ≡ old)

-- it is noted among the changes; where there is an error, they stay as they were
abbrev pub Notes : {T E : Type 0} → Result T E → ChangeMap → EditOp → ChangeMap → Type 0
Notes result old op new =
    MatchResult result (λ _. (p : PathValue) → get new p ≡ changes_after (changes_of old) op p)
    (λ _. new ≡ old)
