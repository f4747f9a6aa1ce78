-- Whether a revision changed what is at a path.
use Rattle.std.specs.{Prelude.{Bool, true, ◌&&◌, ◌||◌, List, [], ◌∷◌}, List.list_any}
use Rattle.svnpath.specs.Paths.{is_at_or_under, PathValue}
use Rattle.repo_api.specs.Histories.{Changed}
use Rattle.traces.specs.Traces.{is_from}

-- a change at or under the path, or a copy at or above it
abbrev pub touches : PathValue → Changed → Bool
touches p e = is_at_or_under e.0 p || (is_from e.1.source && is_at_or_under p e.0)

-- whether the revision is listed where a trace has it at p; for the root each is
abbrev pub is_touched : List Changed → PathValue → Bool
is_touched changes [] = true
is_touched changes (c ∷ p) = list_any (touches (c ∷ p)) changes
