-- What the marks of a tree tell of the lists of changes.
use Rattle.std.specs.Prelude.{◌≡◌, ◌≤◌, ℕ, suc, true, List, Option, Some, None, IsSome, Contains, ◌⊎◌}
use Rattle.svnpath.specs.Paths.{is_at_or_under, PathValue}
use Rattle.repo_api.specs.{Histories.{Changed, History, IsQuietSince}, Kinds.created_of, Trees.{revision_of, Tree}, declared.entry.Entry.Entry}
use Rattle.traces.specs.Traces.{makes}

-- the revision that last changed the entry itself
abbrev pub own_revision : Option Entry → Option ℕ
own_revision None = None
own_revision (Some e) = revision_of e.own

-- nothing at or above the path was added or replaced
abbrev pub IsNotMade : List Changed → PathValue → Type 0
IsNotMade changes p =
    (e : Changed) → Contains changes e → is_at_or_under p e.0 ≡ true → makes e.1.action ≡ true → ⊥

-- Marks tell of changes: what lies at or above a change has the revision in its `last`, what lies
-- at it in its `own` too, and an entry that nothing made has the marks of the revision before, or
-- new ones.
pub record IsMarkedBy (trees : ℕ → Tree) (h : History) : Type 0 where
  pub by_last : (n : ℕ) (p : PathValue) (e : Changed) → Contains (h n) e
      → is_at_or_under e.0 p ≡ true → IsSome (trees n p) → created_of (trees n p) ≡ Some n
  pub by_own : (n : ℕ) (e : Changed) → Contains (h n) e → IsSome (trees n e.0)
      → own_revision (trees n e.0) ≡ Some n
  pub keeps_last : (n : ℕ) (p : PathValue) → IsNotMade (h (suc n)) p → IsSome (trees (suc n) p)
      → (created_of (trees (suc n) p) ≡ Some (suc n))
      ⊎ (created_of (trees (suc n) p) ≡ created_of (trees n p))
  pub keeps_own : (n : ℕ) (p above : PathValue) → IsNotMade (h (suc n)) p
      → is_at_or_under p above ≡ true → IsSome (trees (suc n) above)
      → (own_revision (trees (suc n) above) ≡ Some (suc n))
      ⊎ (own_revision (trees (suc n) above) ≡ own_revision (trees n above))

-- a mark's revision that is at most k
abbrev pub IsUpTo : ℕ → Option ℕ → Type 0
IsUpTo k o = (m : ℕ) × (o ≡ Some m) × (m ≤ k)

-- in a tree, `last` at the path and `own` at and above it are of revisions up to k
pub record IsSettled (t : Tree) (p : PathValue) (k : ℕ) : Type 0 where
  pub last : IsUpTo k (created_of (t p))
  pub own : (above : PathValue) → is_at_or_under p above ≡ true → IsUpTo k (own_revision (t above))

-- whatever revision k is below n, if the marks of revision n are up to k: from there up to n nothing
-- was changed at, under or above the path
abbrev pub MarksLeadBack : (ℕ → Tree) → History → Type 0
MarksLeadBack trees h =
    (p : PathValue) (k n : ℕ) → IsSettled (trees n) p k → IsQuietSince h p k n
