-- The end of a report, as it is written.
use Rattle.std.specs.Prelude.{◌≡◌, ◌⊎◌, ℕ, List, [], Ok, Err, MatchResult, Result}
use Rattle.repo_api.specs.States.{RepoState}
use Rattle.reporter.specs.{Refusing.{OpenState, finish_root}, declared.report.ReportRoot.ReportRoot}
use Rattle.refusals.specs.declared.fault.NotDone.{NotDone}
use Rattle.refusals.specs.declared.fault.NotDone.TheVariants as faults
use Rattle.drive_sides.specs.Plans.{whole}
use Rattle.drive_sending.specs.Driving.{DriveLost, DriveWritten}

-- the report leads to no drive, and nothing was written; or for want of memory or of the sink
-- nothing was written, or a part of a drive that may be sent
abbrev pub IsUnanswered : RepoState → OpenState → (List ℕ → Type 0) → NotDone → Type 0
IsUnanswered c report writes (faults.Refused r) = (finish_root c report ≡ Err r) × writes []
IsUnanswered c report writes faults.NoMemory =
    writes [] ⊎ ((root : ReportRoot) × (finish_root c report ≡ Ok root)
    × DriveLost c (whole report root) writes)

-- the end of a report: it leads to a drive, and one that may be sent was written; or it has none
abbrev pub EndsReport : {T : Type 0} → Result T NotDone → RepoState → OpenState
    → (List ℕ → Type 0) → Type 0
EndsReport r c report writes =
    MatchResult r (λ _. (root : ReportRoot) × (finish_root c report ≡ Ok root)
    × DriveWritten c (whole report root) writes)
    (IsUnanswered c report writes)
