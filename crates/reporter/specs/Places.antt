-- What a client has at a path and beneath it.
use Rattle.std.specs.{Prelude.{◌≡◌, ℕ, Bool, false, true, ◌&&◌, List, [], ◌∷◌, ◌++◌, IfSome, Option, None, is_some, option_and_then, option_map}, List.list_any}
use Rattle.svnpath.specs.Paths.{Component, is_at_or_under, PathValue}
use Rattle.repo_api.specs.{Kinds.kind_of, States.{RepoState, Revision, trees_in}, Trees.Tree}
use Rattle.drive_rules.specs.{Scopes.{below, depth_below, HoldsTogether}, declared.depth.Depth.Depth}
use Rattle.reporter.specs.{Reported.{ReportedEntry, ReportedTree, in_subtree, reported, shown_by}, declared.graft.Graft.Graft, declared.graft.Subtree.Subtree}
use Rattle.reporter.specs.declared.reported.ReportedPlace.{ReportedPlace}

-- what stands in a revision stands in a directory of it
abbrev pub AllHoldTogether : List Revision → Type 0
AllHoldTogether rs = (n : ℕ) → HoldsTogether [] (trees_in rs n)

-- some graft stands beneath p, and at or above q
abbrev pub is_grafted_over : List Graft → PathValue → PathValue → Bool
is_grafted_over grafts p q = list_any (λ g. below p g.path && is_at_or_under q g.path) grafts

-- as much as a client has of what stands somewhere
abbrev pub reported_subtree : ℕ → Bool → Depth → Option (List ℕ) → Subtree
reported_subtree revision starts_empty depth token = record {
  revision = revision;
  starts_empty = starts_empty;
  depth = depth;
  token = token;
}

-- as much as it has of what stands these names beneath the top
abbrev pub part_below : Subtree → List Component → Subtree
part_below s [] = s
part_below s (c ∷ rest) = reported_subtree s.revision false (depth_below s.depth) None

-- what it has at the rest of a path, from a place on
abbrev pub in_place : (ℕ → Tree) → ReportedPlace → List Component → Option ReportedEntry
in_place trees place rest =
    in_subtree trees place.path
    (reported_subtree place.revision place.starts_empty place.depth place.token) rest

-- What a client has at a path, by the first of the grafts of a report, is what one of them shows, or
-- nothing where there is none. So it is beneath, where no graft of the report stands over it.
pub record IsShownBy (c : RepoState) (top : PathValue) (first grafts : List Graft) (p : PathValue)
    (found : Option Graft) : Type 0 where
  pub here : reported (trees_in c.revisions) top first p ≡ shown_by (trees_in c.revisions) p found
  pub beneath : (q : PathValue) → is_at_or_under q p ≡ true → is_grafted_over grafts p q ≡ false
      → reported (trees_in c.revisions) top first q ≡ shown_by (trees_in c.revisions) q found

-- What is had at a path is what stands at this place, of its kind, or nothing where there is none. So
-- it is beneath, where none of the grafts stands over it.
pub record IsPlacedAt (c : RepoState) (had : ReportedTree) (grafts : List Graft) (p : PathValue)
    (found : Option ReportedPlace) : Type 0 where
  pub here : had p ≡ option_and_then (λ place. in_place (trees_in c.revisions) place []) found
  pub stands : is_some found ≡ is_some (had p)
  pub kind : IfSome found (λ place. place.kind ≡ kind_of (option_map (λ h. h.entry) (had p)))
  pub beneath : (rest : List Component) → is_grafted_over grafts p (p ++ rest) ≡ false
      → IfSome found (λ place. had (p ++ rest) ≡ in_place (trees_in c.revisions) place rest)
