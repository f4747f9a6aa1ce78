-- What marks name.
use Rattle.std.specs.Prelude.{◌≡◌, ◌==◌, ℕ, Bool, true, false, ◌++◌, Option, Some, None, option_map, IsSome, if◌then◌else◌}
use Rattle.svnpath.specs.Paths.{is_at_or_under, PathValue}
use Rattle.repo_api.specs.{Properties.PropertyList, Trees.{Tree, IsTree, is_open_mark}, RightEdits.IsThere, Merge.{is_changed, has_open_last, HasNoConflict}}
use Rattle.repo_api.specs.{declared.entry.Entry.Entry, declared.entry.Mark.Mark, declared.entry.Mark.TheVariants.Made, declared.entry.Content.Content}
use Rattle.repo_api.specs.declared.edit.EditOp.{EditOp}
use Rattle.repo_api.specs.declared.edit.EditOp.TheVariants.{AddDirectory, AddFile, Copy, Replace, Delete, SetProperty, RemoveProperty, SetText}

-- presence, kind, properties and text
abbrev pub shown : Option Entry → Option (Content × PropertyList)
shown o = option_map (λ e. (e.content, e.properties)) o

abbrev pub own_of : Option Entry → Option Mark
own_of o = option_map (λ e. e.own) o

abbrev pub last_of : Option Entry → Option Mark
last_of o = option_map (λ e. e.last) o

-- the transaction changed it itself
abbrev pub has_open_own : Option Entry → Bool
has_open_own None = false
has_open_own (Some e) = is_open_mark e.own

-- each closed mark of the tree names what stands at its path of its revision's tree: a `last` all
-- that is at and
-- under it, an `own` the kind, the properties and the text
pub record MarksName (trees : ℕ → Tree) (t : Tree) : Type 0 where
  pub by_last : (p : PathValue) (n : ℕ) (q : PathValue) → last_of (t p) ≡ Some (Made n q)
      → (rest : PathValue) → t (p ++ rest) ≡ trees n (q ++ rest)
  pub by_own : (p : PathValue) (n : ℕ) (q : PathValue) → own_of (t p) ≡ Some (Made n q)
      → shown (t p) ≡ shown (trees n q)

-- no mark is open
abbrev pub IsClosed : Tree → Type 0
IsClosed t = (p : PathValue) → (has_open_own (t p) ≡ false) × (has_open_last (t p) ≡ false)

-- the trees of the revisions: their marks are closed, and name what they mark
pub record AreMarked (trees : ℕ → Tree) : Type 0 where
  pub closed : (n : ℕ) → IsClosed (trees n)
  pub named : (n : ℕ) → MarksName trees (trees n)

-- the tree of a transaction that began at the base: its closed marks name what they mark, an open
-- `own` comes with
-- an open `last`, and what came closed from elsewhere lies under something whose `own` is open
pub record IsTransactionOf (trees : ℕ → Tree) (base txn : Tree) : Type 0 where
  pub named : MarksName trees txn
  pub own_opens_last : (p : PathValue) → has_open_own (txn p) ≡ true → has_open_last (txn p) ≡ true
  pub copied_beneath : (p : PathValue) (n : ℕ) (q : PathValue) → last_of (txn p) ≡ Some (Made n q)
      → is_changed (base p) (txn p) ≡ true
      → (above : PathValue) × (is_at_or_under p above ≡ true) × (has_open_own (txn above) ≡ true)

-- a transaction that may be merged with the youngest revision: all are trees, marks name what they
-- mark, and
-- nothing conflicts
pub record MeetWell (trees : ℕ → Tree) (base : ℕ) (txn : Tree) (youngest : ℕ) : Type 0 where
  pub marked : AreMarked trees
  pub base_tree : IsTree (trees base)
  pub youngest_tree : IsTree (trees youngest)
  pub txn_tree : IsTree txn
  pub is_of : IsTransactionOf trees (trees base) txn
  pub no_conflict : HasNoConflict (trees base) txn (trees youngest)

-- the revisions that are there stay
abbrev pub KeepsTrees : (ℕ → Tree) → (ℕ → Tree) → Type 0
KeepsTrees old new =
    (n : ℕ) (p : PathValue) → IsSome (old n p) → (q : PathValue) → new n q ≡ old n q

-- no revision has this number yet
abbrev pub IsFree : (ℕ → Tree) → ℕ → Type 0
IsFree trees n = (p : PathValue) → trees n p ≡ None

-- the trees with that of a new revision
abbrev pub with_tree : (ℕ → Tree) → ℕ → Tree → ℕ → Tree
with_tree trees n t k = if k == n then t else trees k

-- a copy is of something that stands there
abbrev pub HasSource : (ℕ → Tree) → EditOp → Type 0
HasSource trees (AddDirectory p) = Unit {0}
HasSource trees (AddFile p) = Unit {0}
HasSource trees (Copy source p) = IsThere trees source
HasSource trees (Replace source p) = IsThere trees source
HasSource trees (Delete p) = Unit {0}
HasSource trees (SetProperty p name value) = Unit {0}
HasSource trees (RemoveProperty p name) = Unit {0}
HasSource trees (SetText p text) = Unit {0}
