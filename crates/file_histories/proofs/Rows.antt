-- Segments and deletions, worked by hand.
use Rattle.std.specs.{Prelude.get_or, List.find}
use Rattle.std.proofs.Common.{◌≡◌, false, List, ℕ, [], ◌∷◌, Option, Some, None, codes, refl}
use Rattle.svnpath.specs.Paths.{PathValue}
use Rattle.repo_api.specs.{Histories.{Changed, History}, declared.change.Action.Action, declared.change.Change.Change, declared.change.Source.Source}
use Rattle.repo_api.specs.declared.change.Action.TheVariants.{Add, Delete, Replace, Modify}
use Rattle.file_histories.specs.{Deleted.{is_taken_away, revisions_after}, Segments.{cut, gap, segments, stretch}}

abbrev trunk : PathValue
trunk = codes "trunk" ∷ []

abbrev branch : PathValue
branch = codes "branch" ∷ []

abbrev in_trunk : List ℕ → PathValue
in_trunk name = codes "trunk" ∷ name ∷ []

abbrev in_branch : List ℕ → PathValue
in_branch name = codes "branch" ∷ name ∷ []

abbrev changed : Action → Option Source → Change
changed action source = record { action = action; text = false; properties = false; source = source }

abbrev from : PathValue → ℕ → Option Source
from path revision = Some (record { path = path; revision = revision })

-- a trunk with two files; a branch of it, in which one changes; the other moves; and in the branch it is replaced
abbrev lists : List (List Changed)
lists =
    []
    ∷ ((trunk, changed Add None) ∷ [])
    ∷ ((in_trunk (codes "f"), changed Add None) ∷ [])
    ∷ ((in_trunk (codes "g"), changed Add None) ∷ [])
    ∷ ((branch, changed Add (from trunk 3)) ∷ (in_branch (codes "f"), changed Modify None) ∷ [])
    ∷ ((in_trunk (codes "g"), changed Delete None) ∷ (in_trunk (codes "h"), changed Add (from (in_trunk (codes "g")) 4)) ∷ [])
    ∷ ((in_branch (codes "g"), changed Replace None) ∷ [])
    ∷ []

abbrev h : History
h n = get_or lists n []

copied_row : cut 2 5 (segments h 6 (in_branch (codes "f"))) ≡ stretch 4 5 (in_branch (codes "f")) ∷ stretch 2 3 (in_trunk (codes "f")) ∷ []
copied_row = refl

root_row : cut 0 6 (segments h 6 []) ≡ stretch 0 6 [] ∷ []
root_row = refl

moved_row : cut 0 6 (segments h 6 (in_trunk (codes "h"))) ≡ stretch 5 6 (in_trunk (codes "h")) ∷ stretch 3 4 (in_trunk (codes "g")) ∷ []
moved_row = refl

deleted_row : find (is_taken_away h (in_trunk (codes "g"))) (revisions_after 3 3) ≡ Some 5
deleted_row = refl

replaced_row : find (is_taken_away h (in_branch (codes "g"))) (revisions_after 4 2) ≡ Some 6
replaced_row = refl

stays_row : find (is_taken_away h trunk) (revisions_after 1 5) ≡ None
stays_row = refl

-- revision 10 copies what was in revision 5
abbrev copy_of_old : History
copy_of_old n =
    get_or
    ([] ∷ ((trunk, changed Add None) ∷ []) ∷ [] ∷ [] ∷ [] ∷ [] ∷ [] ∷ [] ∷ [] ∷ [] ∷ ((branch, changed Add (from trunk 5)) ∷ []) ∷ [])
    n []

gap_row : cut 0 12 (segments copy_of_old 12 branch)
    ≡ stretch 10 12 branch ∷ gap 10 5 ∷ stretch 1 5 trunk ∷ []
gap_row = refl
