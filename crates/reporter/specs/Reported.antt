-- The tree that a report says the client has.
use Rattle.std.specs.Prelude.{ℕ, ◌-◌, Bool, false, not, is_some, ◌&&◌, ◌||◌, List, [], ◌∷◌, ◌++◌, length, take, drop, Option, Some, None, option_map}
use Rattle.std.specs.Prelude.{option_and_then, fold, if◌then◌else◌}
use Rattle.svnpath.specs.Paths.{Component, is_at_or_under, PathValue, same_path}
use Rattle.repo_api.specs.{Trees.{is_directory, is_file_there, Tree}, declared.entry.Entry.Entry}
use Rattle.drive_rules.specs.{Scopes.depth_below, declared.depth.Depth.Depth, declared.depth.Depth.TheVariants.{Empty, Files, Immediates, Infinity}}
use Rattle.reporter.specs.{declared.graft.Graft.Graft, declared.graft.Subtree.Subtree}

-- what a client has at a path: the entry, its path of the repository and its revision, whether it
-- was reported to start empty and how deep, and the token of a lock
pub record ReportedEntry : Type 0 where
  pub entry : Entry
  pub from : PathValue
  pub revision : ℕ
  pub starts_empty : Bool
  pub depth : Depth
  pub token : Option (List ℕ)

-- what a client has at each path
abbrev pub ReportedTree : Type 0
ReportedTree = PathValue → Option ReportedEntry

-- the entries alone
abbrev pub reported_entries : ReportedTree → Tree
reported_entries had q = option_map (λ h. h.entry) (had q)

-- ---- one subtree

-- the entry, if it is a file
abbrev pub if_file : Option Entry → Option Entry
if_file e = if is_file_there e then e else None

-- what a depth leaves of an entry that stands in the top, so many names further down: nothing, the
-- files in the top, what stands in the top, everything
abbrev pub left_by : Depth → List Component → Option Entry → Option Entry
left_by Empty rest e = None
left_by Files [] e = if_file e
left_by Files (c ∷ rest) e = None
left_by Immediates [] e = e
left_by Immediates (c ∷ rest) e = None
left_by Infinity rest e = e

-- what a client has of the top of a subtree: a directory that starts empty has no properties yet
abbrev pub top_entry : Bool → Entry → Entry
top_entry starts_empty e =
    record e { properties = if starts_empty && is_directory e then [] else e.properties }

-- an entry of a subtree, at this path of the repository, reported so deep, with this token
abbrev pub reported_as : Subtree → PathValue → Depth → Option (List ℕ) → Entry → ReportedEntry
reported_as s from depth token e = record {
  entry = e;
  from = from;
  revision = s.revision;
  starts_empty = s.starts_empty;
  depth = depth;
  token = token;
}

-- what a subtree has at the rest of a path, from its top on
abbrev pub in_subtree : (ℕ → Tree) → PathValue → Subtree → List Component → Option ReportedEntry
in_subtree trees from s [] =
    option_map (λ e. reported_as s from s.depth s.token (top_entry s.starts_empty e))
    (trees s.revision from)
in_subtree trees from s (c ∷ rest) =
    if s.starts_empty
    then None
    else option_map (reported_as s (from ++ c ∷ rest) (depth_below s.depth) None)
    (left_by s.depth rest (trees s.revision (from ++ c ∷ rest)))

-- what a graft has at the rest of a path, from its own path on
abbrev pub in_graft : (ℕ → Tree) → Graft → List Component → Option ReportedEntry
in_graft trees g rest = option_and_then (λ s. in_subtree trees g.from s rest) g.subtree

-- what a graft shows at a path, if there is a graft: nothing outside its own path
abbrev pub shown_by : (ℕ → Tree) → PathValue → Option Graft → Option ReportedEntry
shown_by trees q None = None
shown_by trees q (Some g) =
    if is_at_or_under q g.path then in_graft trees g (drop (length g.path) q) else None

-- ---- all grafts

-- the client has a directory there
abbrev pub has_directory : Option ReportedEntry → Bool
has_directory None = false
has_directory (Some h) = is_directory h.entry

-- the path above; of the root the root
abbrev pub path_above : PathValue → PathValue
path_above p = take (length p - 1) p

-- a path has its place at the top of the report, and in a directory that is there
abbrev pub has_place : PathValue → ReportedTree → PathValue → Bool
has_place top had p = same_path p top || has_directory (had (path_above p))

-- a graft that has its place stands there, in the place of what stood at its path and under it
abbrev pub with_graft : (ℕ → Tree) → PathValue → ReportedTree → Graft → ReportedTree
with_graft trees top had g q =
    if has_place top had g.path && is_at_or_under q g.path
    then in_graft trees g (drop (length g.path) q)
    else had q

-- a graft that has its place whatever stands there: that of the target, and one of nothing beneath
-- the target, which takes nothing away where it has none
abbrev pub is_surely_placed : PathValue → Graft → Bool
is_surely_placed top g =
    same_path g.path top || (not (is_some g.subtree) && is_at_or_under g.path top)

-- the tree after these grafts, in their order, over the trees of the revisions; the top is the
-- target
abbrev pub reported : (ℕ → Tree) → PathValue → List Graft → ReportedTree
reported trees top grafts = fold (with_graft trees top) (λ _. None) grafts

-- ---- which path of the repository a path stands for

-- the graft's, where the path is at or under it
abbrev pub origin_after : PathValue → PathValue → Graft → PathValue
origin_after q from g =
    if is_at_or_under q g.path then g.from ++ drop (length g.path) q else from

-- by the last graft at or above the path, or else by the anchor
abbrev pub origin : PathValue → List Graft → PathValue → PathValue
origin anchor grafts q = fold (origin_after q) (anchor ++ q) grafts

-- What a path that is set stands for from then on: the target for its own path in the repository,
-- and a path beneath it for what its directory stands for, so that a link is followed.
abbrev pub own_source : PathValue → PathValue → List Graft → PathValue → PathValue
own_source anchor top grafts p =
    if same_path p top
    then anchor ++ top
    else origin anchor grafts (path_above p) ++ drop (length p - 1) p
