-- The last tree that changed whole, as the changes are gone through in the order of their paths.
use Rattle.std.specs.Prelude.{Bool, false, if◌then◌else◌, Option, Some, None}
use Rattle.svnpath.specs.Paths.{is_at_or_under, PathValue}
use Rattle.repo_api.specs.{declared.change.Action.Action, Locking.is_of_whole_tree}

-- the path lies in that tree
abbrev pub is_below : Option PathValue → PathValue → Bool
is_below None p = false
is_below (Some top) p = is_at_or_under p top

-- that tree after a change at p
abbrev pub top_after : Option PathValue → PathValue → Action → Option PathValue
top_after top p action = if is_of_whole_tree action then Some p else top
