-- Depths of directories, in reports and in drives.
use Rattle.std.specs.{Prelude.{◌≡◌, ◌⊎◌, true, false, List, [], ◌∷◌, ◌++◌, length, drop, is_some, Some}, List.list_any}
use Rattle.svnpath.specs.Paths.{Component, PathValue}
use Rattle.repo_api.specs.{Kinds.kind_of, States.RepoState}
use Rattle.reporter.specs.{Depths.{is_shallow, is_to_the_end}, Reported.ReportedEntry}
use Rattle.reporter.specs.{Targets.{WholeReport, client_entries, depth_inherited, drive_limit, drive_scope}, declared.ask.DepthAsked.DepthAsked}
use Rattle.reporter.specs.{declared.ask.DepthAsked.TheVariants.{AsReported, Given}, declared.reported.ReportedPlace.ReportedPlace}
use Rattle.drive_rules.specs.{Scopes.{depth_said, DepthLimit, own_or_inherited, top_limit}, declared.depth.Depth.Depth}
use Rattle.drive_rules.specs.declared.depth.Depth.TheVariants.{Empty, Files, Immediates, Infinity}
use Rattle.drive_sides.specs.{declared.reach.Reach.Reach, declared.reach.Reach.TheVariants.{NoChild, ChildHad, AnyChild}}

-- as much is asked for as was reported, and everything was reported
abbrev pub FollowsWholeReport : WholeReport → Type 0
FollowsWholeReport report =
    (report.ask.depth ≡ AsReported) × (is_to_the_end report.root.depth ≡ true)
    × (list_any is_shallow report.grafts ≡ false)

-- an entry that is had comes from a place: it starts empty or not, and is of the kind and as deep, as
-- the place
pub record IsOfPlace (place : ReportedPlace) (h : ReportedEntry) : Type 0 where
  pub kind : place.kind ≡ kind_of (Some h.entry)
  pub starts_empty : h.starts_empty ≡ place.starts_empty
  pub depth : h.depth ≡ place.depth

-- all that stands at a place and beneath it is had
abbrev pub IsWhole : ReportedPlace → Type 0
IsWhole place = (place.starts_empty ≡ false) × (place.depth ≡ Infinity)

-- nothing that stands beneath a place is had
abbrev pub IsAlone : ReportedPlace → Type 0
IsAlone place = (place.starts_empty ≡ true) ⊎ (place.depth ≡ Empty)

-- the depth of a directory that these names lead down to, from a directory of this depth
abbrev pub depth_down : (Depth → Depth) → DepthLimit → PathValue → Depth → List Component → Depth
depth_down inherited limit here depth [] = depth
depth_down inherited limit here depth (c ∷ rest) =
    let child = here ++ c ∷ [] in
    depth_down inherited limit child (own_or_inherited inherited (depth_said limit child) depth)
    rest

-- how deep a drive goes from a directory at or under its target
abbrev pub depth_at : RepoState → WholeReport → PathValue → Depth
depth_at c report p =
    let top = report.ask.target in
    depth_down (depth_inherited report.ask) (drive_limit c report) top
    (top_limit (drive_limit c report) top) (drop (length top) p)

-- which children a drive of this depth can be of, by what is asked for
abbrev pub reach_of : Depth → DepthAsked → Reach
reach_of Empty (Given depth) = NoChild
reach_of Empty AsReported = ChildHad
reach_of Files asked = AnyChild
reach_of Immediates asked = AnyChild
reach_of Infinity asked = AnyChild

-- of which children of a directory a drive can be: of none; of those that the client has; of any
abbrev pub Reaches : Reach → RepoState → WholeReport → PathValue → Type 0
Reaches NoChild c report p = (x : Component) → drive_scope c report (p ++ x ∷ []) ≡ false
Reaches ChildHad c report p =
    (x : Component) → drive_scope c report (p ++ x ∷ []) ≡ true
    → is_some (client_entries c report (p ++ x ∷ [])) ≡ true
Reaches AnyChild c report p = Unit {0}
