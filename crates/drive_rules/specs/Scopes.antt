-- The paths that a drive is of.
use Rattle.std.specs.Prelude.{◌≡◌, IsSome, Bool, true, false, not, ◌&&◌, ◌||◌, List, [], ◌∷◌, ◌++◌, Option, Some, None, is_some, if◌then◌else◌, drop, length}
use Rattle.svnpath.specs.Paths.{Component, is_at_or_under, PathValue, same_path}
use Rattle.repo_api.specs.{Trees.{HasDirectory, is_file_there, Tree}, declared.entry.Entry.Entry}
use Rattle.drive_rules.specs.{declared.depth.Depth.Depth, declared.depth.Depth.TheVariants.{Empty, Files, Immediates, Infinity}}

-- q is at or under p
abbrev pub under : PathValue → PathValue → Bool
under p q = is_at_or_under q p

-- q is under p, and is not p
abbrev pub below : PathValue → PathValue → Bool
below p q = is_at_or_under q p && not (same_path p q)

-- the tree with nothing outside the scope
abbrev pub within : (PathValue → Bool) → Tree → Tree
within scope t q = if scope q then t q else None

-- the tree with nothing at or under the path
abbrev pub tree_without : PathValue → Tree → Tree
tree_without p t q = if is_at_or_under q p then None else t q

-- ---- depths

-- whether a directory of this depth brings in a child, by what the child was and what it is to be
abbrev pub includes_child : Depth → Option Entry → Option Entry → Bool
includes_child Empty old new = false
includes_child Files old new = is_file_there old || is_file_there new
includes_child Immediates old new = true
includes_child Infinity old new = true

-- the depth of a directory in a directory of this depth
abbrev pub depth_below : Depth → Depth
depth_below Infinity = Infinity
depth_below Immediates = Empty
depth_below Files = Empty
depth_below Empty = Empty

-- what a client of today takes a directory for that is added in a directory of this depth
abbrev pub depth_added : Depth → Depth
depth_added Immediates = Empty
depth_added Infinity = Infinity
depth_added Files = Infinity
depth_added Empty = Infinity

-- the depth that was said of a directory, or else what it inherits of its parent's depth
abbrev pub own_or_inherited : (Depth → Depth) → Option Depth → Depth → Depth
own_or_inherited inherited (Some depth) above = depth
own_or_inherited inherited None above = inherited above

-- How deep a drive goes: to a given depth, or as deep as was reported of each directory of the old
-- tree, with a depth for a top that is no directory there.
pub data DepthLimit : Type 0 where
  Given : Depth → DepthLimit
  Reported : (PathValue → Option Depth) → Depth → DepthLimit

-- the depth that was reported of a directory
abbrev pub depth_said : DepthLimit → PathValue → Option Depth
depth_said (Given depth) q = None
depth_said (Reported said top) q = said q

-- a drive as deep as was reported is of every path of the old tree
abbrev pub keeps_reported : DepthLimit → Option Entry → Bool
keeps_reported (Given depth) old = false
keeps_reported (Reported said top) old = is_some old

-- the depth of the top
abbrev pub top_limit : DepthLimit → PathValue → Depth
top_limit (Given depth) top = depth
top_limit (Reported said depth) top = by (said top)
  where
    by : Option Depth → Depth
    by (Some d) = d
    by None = depth

-- ---- scopes

-- a directory of this depth at a path lets its child of this path into the scope
abbrev pub includes : DepthLimit → Tree → Tree → Depth → PathValue → Bool
includes limit old new depth child =
    includes_child depth (old child) (new child) || keeps_reported limit (old child)

-- Whether the names, gone down one by one from a directory of this depth, stay in scope: what is
-- hidden is not in it, nor what is under it. A directory of which no depth was said has what it
-- inherits of its parent's.
abbrev pub stays_in_scope : (PathValue → Bool) → (Depth → Depth) → DepthLimit → Tree → Tree
    → PathValue → Depth → List Component → Bool
stays_in_scope hides inherited limit old new here depth [] = true
stays_in_scope hides inherited limit old new here depth (c ∷ rest) =
    let child = here ++ c ∷ [] in
    not (hides child) && (includes limit old new depth child
    && stays_in_scope hides inherited limit old new child
    (own_or_inherited inherited (depth_said limit child) depth) rest)

-- the paths of a drive from this top, so deep
abbrev pub scope_of : (PathValue → Bool) → (Depth → Depth) → DepthLimit → Tree → Tree → PathValue
    → PathValue → Bool
scope_of hides inherited limit old new top q =
    is_at_or_under q top
    && stays_in_scope hides inherited limit old new top (top_limit limit top) (drop (length top) q)

-- from the top on, what stands below a path stands in a directory
abbrev pub HoldsTogether : PathValue → Tree → Type 0
HoldsTogether top t =
    (p q : PathValue) → is_at_or_under p top ≡ true → below p q ≡ true → IsSome (t q)
    → HasDirectory t p
