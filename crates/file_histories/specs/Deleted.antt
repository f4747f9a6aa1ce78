-- The revision in which something was taken away.
use Rattle.std.specs.{Prelude.{ℕ, zero, suc, ◌-◌, Bool, true, false, not, ◌&&◌, List, [], ◌∷◌, Option, None, if◌then◌else◌}, List.{find, list_any}}
use Rattle.svnpath.specs.Paths.{is_at_or_under, PathValue}
use Rattle.repo_api.specs.{Histories.{Changed, History, history_of}, Kinds.{is_present, kind_at}, States.RepoState, declared.change.Action.Action}
use Rattle.repo_api.specs.declared.change.Action.TheVariants.{Add, Delete, Replace, Modify}

abbrev pub is_modify : Action → Bool
is_modify Add = false
is_modify Delete = false
is_modify Replace = false
is_modify Modify = true

-- after the change the path has not what it had before: it, or a directory above it, was deleted or
-- replaced (an add comes first nowhere where something is)
abbrev pub takes_away : PathValue → Changed → Bool
takes_away p e = not (is_modify e.1.action) && is_at_or_under p e.0

abbrev pub is_taken_away : History → PathValue → ℕ → Bool
is_taken_away h p n = list_any (takes_away p) (h n)

-- so many revisions after this one, the oldest first
abbrev pub revisions_after : ℕ → ℕ → List ℕ
revisions_after low zero = []
revisions_after low (suc n) = suc low ∷ revisions_after (suc low) n

-- the first revision after `low`, and up to `high`, in which what is at the path in `low` was taken
-- away
abbrev pub deleted_revision : RepoState → PathValue → ℕ → ℕ → Option ℕ
deleted_revision c p low high =
    if is_present (kind_at c low p)
    then find (is_taken_away (history_of c) p) (revisions_after low (high - low))
    else None
