-- The plans of drives.
use Rattle.std.specs.Prelude.{◌≡◌, true, List, [], ◌∷◌, Some, if◌then◌else◌}
use Rattle.svnpath.specs.Paths.{PathValue, same_path}
use Rattle.repo_api.specs.States.{RepoState}
use Rattle.drive_rules.specs.Scopes.{under}
use Rattle.drive_visits.specs.{Nesting.walk, Visits.{IsRightPlan, Visit}, Walks.WalkedTrees, Visits.Visit.Open}
use Rattle.reporter.specs.{Refusing.OpenState, Targets.{WholeReport, due_in, is_apart, old_tree, new_tree}, declared.ask.DriveAsk.DriveAsk}
use Rattle.reporter.specs.{declared.report.ReportRoot.ReportRoot, Sent.counts_of}
use Rattle.drive_news.specs.News.{own_steps_of}

-- a report that has come to its end
abbrev pub whole : OpenState → ReportRoot → WholeReport
whole report root = record { ask = report.ask; root = root; grafts = report.grafts }

-- both trees of its drive
abbrev pub drive_trees : RepoState → WholeReport → WalkedTrees
drive_trees c report = record {
  old = old_tree c report;
  new = new_tree c report;
  due = due_in c report;
  apart = is_apart c report;
  counts = counts_of report.ask.purpose;
  own = own_steps_of c report;
}

-- the root itself stands before the visits where there is no target
abbrev pub from_top : DriveAsk → List Visit → List Visit
from_top ask visits = if same_path ask.target [] then Open [] true ∷ visits else visits

-- visits from the open root on, which lead from what the client has to what it is to have
pub record IsPlan (c : RepoState) (report : WholeReport) (visits : List Visit) : Type 0 where
  pub right : IsRightPlan (counts_of report.ask.purpose) (under report.ask.target)
      (due_in c report) (is_apart c report) (old_tree c report) (new_tree c report)
      (own_steps_of c report) (from_top report.ask visits)
  pub nests : (ds : List PathValue)
      → walk (new_tree c report) report.ask.target ([] ∷ ds) visits ≡ Some ([] ∷ ds)
