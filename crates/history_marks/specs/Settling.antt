-- How far back the marks at and above a path go.
use Rattle.std.specs.Prelude.{◌≡◌, ◌≤◌, ℕ, true, Option, Some, None}
use Rattle.svnpath.specs.Paths.{is_at_or_under, PathValue}
use Rattle.repo_api.specs.{Kinds.created_of, Trees.Tree}
use Rattle.history_marks.specs.Quiet.{own_revision}

abbrev pub or_zero : Option ℕ → ℕ
or_zero None = 0
or_zero (Some n) = n

-- no mark is of a later revision than k: neither `last` at the path, nor `own` at it and above
pub record HasNoLaterMark (t : Tree) (p : PathValue) (k : ℕ) : Type 0 where
  pub last : or_zero (created_of (t p)) ≤ k
  pub own : (above : PathValue) → is_at_or_under p above ≡ true
      → or_zero (own_revision (t above)) ≤ k
