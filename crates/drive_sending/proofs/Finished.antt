-- Where there is no target, a directory is to stand at the root of a drive.
use Rattle.std.proofs.Common.{◌≡◌, ℕ, inr, List, Bool, true, false, ◌&&◌, ◌||◌, [], length, drop, Option, Some, None, refl, sym, ap, ◌∙◌, subst, if◌then◌else◌}
use Rattle.std.proofs.lemmas.Bool.{false≢true}
use Rattle.repo_api.specs.{Soundness.AreTrees, States.{RepoState, trees_in}, Trees.is_directory_there, declared.entry.Entry.Entry}
use Rattle.std.specs.Prelude.{Result, Ok, Err, ok_or, is_some}
use Rattle.svnpath.specs.{PathLaws.same_path_is, Paths.{is_at_or_under, PathValue, same_path}}
use Rattle.refusals.specs.declared.Refusal.{Refusal}
use Rattle.refusals.specs.declared.Refusal.TheVariants as refusals
use Rattle.drive_rules.specs.{Scopes.{stays_in_scope, top_limit}, Steps.EntryKind.DirectoryKind}
use Rattle.drive_rules.proofs.Joined.{and_front}
use Rattle.drive_visits.specs.Visits.{entry_kind, kind_if, Visit}
use Rattle.reporter.specs.{Named.{IsNamed, AreNamed}, Refusing.{◌>>=◌, ok_if, OpenState, has_goal, has_anchor, finish_root}, Aims.aim_at}
use Rattle.reporter.specs.Reported.{has_directory}
use Rattle.reporter.specs.Targets.{WholeReport, counted_entries, depth_inherited, drive_limit, is_hidden, reported_tree, target_entries, new_tree}
use Rattle.reporter.specs.{declared.report.ReportRoot.ReportRoot, Sent.IsDrive}
use Rattle.reporter.proofs.Aiming.{root_entry}
use Rattle.drive_sides.specs.Plans.{whole, IsPlan}
use Rattle.wire_edits.specs.declared.editing.EditorCommand.{EditorCommand}
use Rattle.wire_replies.specs.Sinks.{Says}
use Rattle.drive_sending.specs.{Commands.drive_of, Driving.{drive_replies, SaysDrive}}
use Rattle.drive_sending.proofs.{Entries.GiveTexts, Sending.plan_sendable, Drives.{RootStands, is_drive}}

judged : (o : Option ReportRoot) (b : Bool) (root : ReportRoot) → ((ok_or o refusals.MalformedData) >>= (λ r. (ok_if b refusals.NotFound) >>= (λ _. Ok r))) ≡ Ok root → b ≡ true
judged None b root e = absurd (err_is_ok e)
  where
    is_ok : Result ReportRoot Refusal → Bool
    is_ok (Ok r) = true
    is_ok (Err r) = false

    err_is_ok : Err refusals.MalformedData ≡ Ok root → ⊥
    err_is_ok x = false≢true (ap is_ok x)
judged (Some r) true root e = refl
judged (Some r) false root e = absurd (err_is_ok e)
  where
    is_ok : Result ReportRoot Refusal → Bool
    is_ok (Ok r) = true
    is_ok (Err r) = false

    err_is_ok : Err refusals.NotFound ≡ Ok root → ⊥
    err_is_ok x = false≢true (ap is_ok x)

and_behind : (a b : Bool) → (a && b) ≡ true → b ≡ true
and_behind true b h = h
and_behind false b h = absurd (false≢true h)

directory_stands : (o : Option Entry) → is_directory_there o ≡ true → (is_some o ≡ true) × (entry_kind o ≡ DirectoryKind)
directory_stands None h = absurd (false≢true h)
directory_stands (Some e) h = (refl, ap kind_if h)

module _ (c : RepoState) (report : OpenState) (root : ReportRoot) where
  abbrev Whole : WholeReport
  Whole = whole report root

  -- what is to stand at the root, by the target
  abbrev root_in : PathValue → Option Entry
  root_in top =
      if is_at_or_under [] top && stays_in_scope (is_hidden c Whole) (depth_inherited report.ask) (drive_limit c Whole) (counted_entries c Whole) (target_entries c Whole) top (top_limit (drive_limit c Whole) top) (drop (length top) [])
      then (if is_at_or_under [] top then (aim_at c Whole []).entry else None)
      else None

  root_is : report.ask.target ≡ [] → new_tree c Whole [] ≡ trees_in c.revisions report.ask.revision report.ask.goal
  root_is none = ap root_in none ∙ root_entry c Whole none

  anchored : same_path report.ask.target [] ≡ true → has_anchor c report.ask report.grafts ≡ true → is_directory_there (trees_in c.revisions report.ask.revision report.ask.goal) ≡ true
  anchored none anchor =
      and_front (is_directory_there (trees_in c.revisions report.ask.revision report.ask.goal)) (has_directory (reported_tree c report.ask report.grafts []))
      (sym (ap (λ b. if b then is_directory_there (trees_in c.revisions report.ask.revision report.ask.goal) && has_directory (reported_tree c report.ask report.grafts [])
      else report.ask.is_of_today || is_directory_there (trees_in c.revisions report.ask.revision report.ask.anchor)) none) ∙ anchor)

  pub root_stands : finish_root c report ≡ Ok root → RootStands c Whole
  root_stands finished none =
      subst (λ o. (is_some o ≡ true) × (entry_kind o ≡ DirectoryKind)) (sym (root_is (same_path_is report.ask.target [] none)))
      (directory_stands (trees_in c.revisions report.ask.revision report.ask.goal)
      (anchored none (and_behind (has_goal c report.ask report.ask.purpose) (has_anchor c report.ask report.grafts) (judged report.root (has_goal c report.ask report.ask.purpose && has_anchor c report.ask report.grafts) root finished))))

  -- the drive of a plan may be sent
  pub drive_may_be_sent : GiveTexts → (vs : List Visit) → AreTrees c.revisions → IsNamed report.ask.target → AreNamed report.grafts → finish_root c report ≡ Ok root → IsPlan c Whole vs → IsDrive c Whole (drive_of c Whole vs)
  drive_may_be_sent give vs trees target grafts finished plan = is_drive c Whole give vs (plan_sendable c Whole trees target grafts vs plan) (root_stands finished) plan

-- a drive that may be sent, as far as it is written
pub drive_said : {T E : Type 0} (r : Result T E) (writes : List ℕ → Type 0) (c : RepoState) (report : WholeReport) (drive : List EditorCommand) → IsDrive c
    report drive
    → Says r writes (drive_replies drive) → SaysDrive r writes c report
drive_said (Ok x) writes c report drive is said = (drive, is, said)
drive_said (Err e) writes c report drive is part = inr (drive, is, part)
