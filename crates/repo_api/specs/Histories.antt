-- What the revisions of a repository did, by their lists of changes.
use Rattle.std.specs.{Prelude.{◌≡◌, ◌≤◌, ◌<◌, ℕ, true, List, [], Option, Some, None, Contains, slice_get}, FinMap.entries}
use Rattle.svnpath.specs.Paths.{is_at_or_under, PathValue}
use Rattle.repo_api.specs.{States.{RepoState, Revision}, declared.change.Change.Change}

-- a path with what was done there
abbrev pub Changed : Type 0
Changed = PathValue × Change

-- the changes of each revision, in the order of their paths: what stands beneath a path comes after
-- it
abbrev pub History : Type 0
History = ℕ → List Changed

abbrev pub changes_in : Option Revision → List Changed
changes_in None = []
changes_in (Some r) = entries r.changes

-- the history of a repository; a number that is no revision has no changes
abbrev pub history_of : RepoState → History
history_of c n = changes_in (slice_get c.revisions n)

-- nothing was changed at, under or above the path
pub record IsQuiet (changes : List Changed) (p : PathValue) : Type 0 where
  pub beneath : (e : Changed) → Contains changes e → is_at_or_under e.0 p ≡ true → ⊥
  pub above : (e : Changed) → Contains changes e → is_at_or_under p e.0 ≡ true → ⊥

-- nothing was changed there after revision k and up to n
abbrev pub IsQuietSince : History → PathValue → ℕ → ℕ → Type 0
IsQuietSince h p k n = (m : ℕ) → k < m → m ≤ n → IsQuiet (h m) p
