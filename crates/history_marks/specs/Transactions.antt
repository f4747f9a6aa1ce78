-- What the marks of an open transaction tell of its changes.
use Rattle.std.specs.Prelude.{◌≡◌, ◌≢◌, ◌⊎◌, Bool, true, false, not, Option, Some, None, IsSome, is_some}
use Rattle.svnpath.specs.Paths.{is_at_or_under, PathValue}
use Rattle.repo_api.specs.{Changes.Changes, Marks.{has_open_own, last_of, own_of}, Merge.has_open_last, States.{changes_of, tree_of, trees_in, TxnState}}
use Rattle.repo_api.specs.{Trees.Tree, declared.change.Action.Action, declared.change.Action.TheVariants.{Add, Delete, Replace, Modify}}
use Rattle.repo_api.specs.{declared.change.Change.Change, declared.entry.Entry.Entry}
use Rattle.traces.specs.Traces.{makes}

-- under the other path, and not that path itself
abbrev pub IsBeneath : PathValue → PathValue → Type 0
IsBeneath p above = (is_at_or_under p above ≡ true) × (p ≢ above)

-- whether there is a change, and it is an add or a replace
abbrev pub has_made : Option Change → Bool
has_made None = false
has_made (Some c) = makes c.action

-- something at or above the path was added or replaced
abbrev pub IsMade : Changes → PathValue → Type 0
IsMade changes p =
    (above : PathValue) × (is_at_or_under p above ≡ true) × (has_made (changes above) ≡ true)

-- something above the path was added or replaced
abbrev pub IsMadeAbove : Changes → PathValue → Type 0
IsMadeAbove changes p =
    (above : PathValue) × IsBeneath p above × (has_made (changes above) ≡ true)

-- whether this is what a change leaves at its path: nothing after a delete, else an entry whose
-- `own` is open
abbrev pub is_left_by : Action → Option Entry → Bool
is_left_by Add o = has_open_own o
is_left_by Delete o = not (is_some o)
is_left_by Replace o = has_open_own o
is_left_by Modify o = has_open_own o

abbrev pub is_add : Action → Bool
is_add Add = true
is_add Delete = false
is_add Replace = false
is_add Modify = false

-- there was an entry in the base, and each mark is that entry's or open
pub record HasMarksOf (base entry : Option Entry) : Type 0 where
  pub there : IsSome base
  pub last : (has_open_last entry ≡ true) ⊎ (last_of entry ≡ last_of base)
  pub own : (has_open_own entry ≡ true) ⊎ (own_of entry ≡ own_of base)

-- The marks of a transaction's tree tell of its changes: a change leaves at its path what such a
-- change does, each directory above it stands there with its `last` open, and an entry that nothing
-- made has the marks of the base, or open ones. And whatever was changed and not added had stood
-- there: in the base, or in what was made above.
pub record TellsChanges (base txn : Tree) (changes : Changes) : Type 0 where
  pub at : (p : PathValue) (c : Change) → changes p ≡ Some c → is_left_by c.action (txn p) ≡ true
  pub above : (p q : PathValue) → IsSome (changes q) → IsBeneath q p
      → has_open_last (txn p) ≡ true
  pub kept : (p : PathValue) → IsSome (txn p) → IsMade changes p ⊎ HasMarksOf (base p) (txn p)
  pub stood : (p : PathValue) (c : Change) → changes p ≡ Some c → is_add c.action ≡ false
      → IsSome (base p) ⊎ IsMadeAbove changes p

-- of an open transaction, from the revision that it began from
abbrev pub IsToldTxn : TxnState → Type 0
IsToldTxn t = TellsChanges (trees_in t.shown t.base) (tree_of t.tree) (changes_of t.changes)
