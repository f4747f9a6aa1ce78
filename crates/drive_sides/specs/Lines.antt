-- Lines of history of all that is at entries and beneath them.
use Rattle.std.specs.Prelude.{◌≡◌, true, List, None}
use Rattle.svnpath.specs.Paths.{Component, PathValue}
use Rattle.repo_api.specs.{Histories.history_of, Readings.IsSameAt, States.RepoState}
use Rattle.traces.specs.declared.place.Place.{Place}
use Rattle.history.specs.{Lines.{AreOneLineBeneath, AreOneLineBeside}, Logs.place_at}
use Rattle.reporter.specs.{Aims.counts_ancestry, declared.ask.DriveAsk.DriveAsk, declared.reported.ReportedPlace.ReportedPlace}
use Rattle.drive_sides.specs.Depths.{IsWhole}

-- where ancestry counts, what is at two places is of one line, and so is what is beneath both
abbrev pub KeepsLines : RepoState → DriveAsk → Place → Place → Type 0
KeepsLines c ask one two =
    counts_ancestry ask ≡ true → AreOneLineBeneath (history_of c) one two

-- the same, but for what is beneath the places by these names
abbrev pub KeepsLinesBeside : List Component → RepoState → DriveAsk → Place → Place → Type 0
KeepsLinesBeside names c ask one two =
    counts_ancestry ask ≡ true → AreOneLineBeside names (history_of c) one two

-- all that is at a place and beneath it is had, with no token; it is what is at the goal and beneath
-- it, and stays as far as lines of history go
pub record IsAllKept (c : RepoState) (ask : DriveAsk) (place : ReportedPlace) (goal : PathValue)
    : Type 0 where
  pub whole : IsWhole place
  pub token : place.token ≡ None
  pub same : IsSameAt c place.revision place.path ask.revision goal
  pub lines : KeepsLines c ask (place_at place.revision place.path) (place_at ask.revision goal)
