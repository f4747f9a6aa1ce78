-- What of a directory may be unlike on both sides.
use Rattle.std.specs.Prelude.{◌≡◌, ◌⊎◌, true, All, List, [], ◌∷◌, ◌++◌}
use Rattle.svnpath.specs.Paths.{Component, PathValue}
use Rattle.repo_api.specs.{Readings.{is_name_among, IsSameAt}, States.RepoState}
use Rattle.history.specs.Logs.{place_at}
use Rattle.drive_visits.specs.Walks.{AreUnlikeListed, IsChild, LeavesUnlike, WalkedTrees}
use Rattle.reporter.specs.declared.ask.DriveAsk.{DriveAsk}
use Rattle.drive_sides.specs.{Lines.KeepsLines, declared.pairs.EntryPair.EntryPair}

-- By no other names are the two directories of a pair unlike: at every other name, and beneath it,
-- the old one has what the new one has, and lines of history let that stay.
abbrev pub AreUnlikeBy : List Component → RepoState → DriveAsk → EntryPair → Type 0
AreUnlikeBy names c ask pair =
    (x : Component) → (is_name_among names x ≡ true)
    ⊎ (IsSameAt c pair.revision (pair.old.now ++ x ∷ []) ask.revision (pair.new.now ++ x ∷ [])
    × KeepsLines c ask (place_at pair.revision (pair.old.now ++ x ∷ []))
    (place_at ask.revision (pair.new.now ++ x ∷ [])))

-- the paths are straight beneath a directory, and among them is what is unlike there: what is left
-- of them, but for such at and under which all is alike, is what is left of the whole directory
pub record HoldUnlike (t : WalkedTrees) (p : PathValue) (paths : List PathValue) : Type 0 where
  pub children : All (IsChild p) paths
  pub unlike : (left : List PathValue) → LeavesUnlike t paths left → AreUnlikeListed t p left
