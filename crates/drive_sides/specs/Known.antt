-- What is known of the paths of a drive.
use Rattle.std.specs.Prelude.{◌≡◌, true, Option, if◌then◌else◌}
use Rattle.svnpath.specs.Paths.{is_at_or_under, PathValue}
use Rattle.repo_api.specs.{Kinds.kind_of, States.RepoState, Trees.is_directory_there}
use Rattle.drive_visits.specs.declared.known_path.KnownPath.{KnownPath}
use Rattle.reporter.specs.{Aims.{Aim, aim_at, aim_of}, Places.IsPlacedAt, Targets.{WholeReport, client_tree}, declared.reported.ReportedPlace.ReportedPlace}
use Rattle.drive_sides.specs.{declared.known.DriveKnown.DriveKnown, declared.leading.Holder.Holder}

-- a path is at or under the target
abbrev pub IsInDrive : RepoState → WholeReport → PathValue → Type 0
IsInDrive c report p = is_at_or_under p report.ask.target ≡ true

-- what the client has at a path comes from here, if it has something
abbrev pub IsHadAt : RepoState → WholeReport → PathValue → Option ReportedPlace → Type 0
IsHadAt c report p had = IsPlacedAt c (client_tree c report) report.grafts p had

-- what is known of a path is so by this aim: where it is led, the kind of what is to stand there,
-- where what is had there comes from, and whether that stays
pub record IsLedBy (c : RepoState) (report : WholeReport) (a : Aim) (known : DriveKnown)
    (p : PathValue) : Type 0 where
  pub goal : known.goal ≡ a.from
  pub kind : known.kind ≡ kind_of a.entry
  pub had : IsHadAt c report p known.had
  pub stays : known.stays ≡ a.stays

-- this is known of a path of the drive
pub record IsKnownOf (c : RepoState) (report : WholeReport) (known : DriveKnown) (p : PathValue)
    : Type 0 where
  pub under : IsInDrive c report p
  pub led : IsLedBy c report (aim_at c report p) known p

-- What the directory at a path says of what is in it, by its aim: whether what was reported of it
-- counts, and whether something may stand there. For every other client all may.
abbrev pub holder_at : RepoState → WholeReport → PathValue → Holder
holder_at c report p =
    let a = aim_at c report p in
    record {
      counts = if report.ask.is_of_today then a.stays else true;
      may_stand = if report.ask.is_of_today then is_directory_there a.entry else true;
    }

-- this is known of a path, by what its directory says and by its own path of the repository
abbrev pub IsLedFrom : RepoState → WholeReport → Holder → PathValue → PathValue → KnownPath DriveKnown
    → Type 0
IsLedFrom c report holder own p place =
    (place.path ≡ p)
    × IsLedBy c report (aim_of c report holder.counts holder.may_stand p own) place.known p
