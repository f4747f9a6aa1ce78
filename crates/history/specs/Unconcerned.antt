-- Revisions that do not concern a path: a trace goes through them, and they are not listed.
use Rattle.std.specs.Prelude.{◌≡◌, Bool, false, None, ◌&&◌, ◌||◌, List}
use Rattle.svnpath.specs.Paths.{is_at_or_under, PathValue}
use Rattle.repo_api.specs.Histories.{Changed}
use Rattle.traces.specs.{Touching.is_touched, Traces.{deciding_change, is_from, makes}}

-- a change at or under the path, or one at or above it that made what is there or has a source
abbrev pub concerns : PathValue → Changed → Bool
concerns p e =
    is_at_or_under e.0 p || ((is_from e.1.source || makes e.1.action) && is_at_or_under p e.0)

-- a trace that is at the path in the revision was there in the one before, and the revision is not
-- listed
pub record IsUnconcerned (changes : List Changed) (p : PathValue) : Type 0 where
  pub untouched : is_touched changes p ≡ false
  pub undecided : deciding_change changes p ≡ None
