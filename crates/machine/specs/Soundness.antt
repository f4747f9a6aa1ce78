-- Changes that meet well what is there.
use Rattle.std.specs.Prelude.{List, [], ◌∷◌}
use Rattle.repo_api.specs.{Accepted.{Accepted, changed}, Accepted.Accepted.{ChangesProperty, Commits, Locks, Releases, Unlocks}, Marks.MeetWell}
use Rattle.repo_api.specs.States.{RepoState, tree_of, trees_in, youngest}

-- a commit that is accepted meets the youngest revision well; a change of locks or of a
-- property of a revision meets none
abbrev pub MeetsWell : RepoState → Accepted → Type 0
MeetsWell c (Commits ask t) =
    MeetWell (trees_in c.revisions) t.base (tree_of t.tree) (youngest c)
MeetsWell c (Locks ask) = Unit {0}
MeetsWell c (Unlocks ask) = Unit {0}
MeetsWell c (Releases user tokens) = Unit {0}
MeetsWell c (ChangesProperty ask) = Unit {0}

-- and so each change, one after another
abbrev pub MeetBy : RepoState → List Accepted → Type 0
MeetBy c [] = Unit {0}
MeetBy c (e ∷ es) = MeetsWell c e × MeetBy (changed c e) es
