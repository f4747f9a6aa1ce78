-- Where the commands of a report lead.
use Rattle.std.proofs.Common.{◌≡◌, ℕ, List, [], refl, sym, subst, inl, inr}
use Rattle.std.specs.Prelude.{Result, Ok, Err, IfOk, Some}
use Rattle.refusals.specs.{declared.Refusal.Refusal, declared.fault.NotDone.NotDone}
use Rattle.repo_api.specs.{Soundness.AreTrees, States.RepoState}
use Rattle.wire_edits.specs.declared.editing.EditorCommand.{EditorCommand}
use Rattle.reporter.specs.{Judging.JudgesReport, Refusing.{◌>>=◌, OpenState, finish_root}, declared.report.ReportRoot.ReportRoot}
use Rattle.reporter.specs.{Reporting.{Drawn, Finishes, EndStep}, Reporting.Drawn.{GoesOn, GivenUp, Fails, Drives, Malformed}, Sent.IsDrive}
use Rattle.refusals.specs.declared.fault.NotDone.TheVariants as faults
use Rattle.access.specs.Points.{AccessRules, content_of, Point}
use Rattle.machine.specs.{Answers.{no_effect, says, Step}, Reports.{drawn_answer, Draws}, Stages.Stage, Steps.StepOrNothing, declared.env.Env.Env}
use Rattle.machine.specs.{declared.phase.Client.Client, declared.phase.Phase.TheVariants.Driven}
use Rattle.session_replies.proofs.Steps.{Leads, only_says, SteppedWith, told_all, told_part}
use Rattle.drive_sides.specs.Plans.{whole}
use Rattle.drive_sending.specs.Driving.{drive_replies}
use Rattle.session_reports.specs.Finishing.{IsUnanswered}

-- what a command of a report draws changes nothing
pub drawn_nothing : (env : Env) (client : Client) (d : Drawn) → (drawn_answer env client d).effect ≡ no_effect
drawn_nothing env client (GoesOn report) = refl
drawn_nothing env client GivenUp = refl
drawn_nothing env client (Fails r path) = refl
drawn_nothing env client (Drives drive) = refl
drawn_nothing env client Malformed = refl

-- a step that tells nothing
pub untold : (rules : AccessRules) (step : Step) (p q : Point) (env : Env) (phase : Stage) (writes : List ℕ → Type 0)
    → rules.between p q → step q.halted (content_of q) (says env phase []) → writes [] → {E : Type 0} (r : Result Stage E) → IfOk r (λ after. after ≡ phase)
    → SteppedWith r env writes rules p q step
untold rules step p q env phase writes later is nothing (Ok after) same =
    told_all (only_says later is) writes after env (record { phase_after = same; env_after = refl; written = nothing })
untold rules step p q env phase writes later is nothing (Err e) same = inl (later, nothing)

-- ---- the end

-- what is drawn at the end, from what the report comes to
finishes : (c : RepoState) (report : OpenState) (r : Result ReportRoot Refusal) (d : Drawn) → finish_root c report ≡ r
    → Finishes c report.ask.goal (r >>= (λ root. Ok (whole report root))) d → EndStep report c d
finishes c report r d is drawn =
    subst (λ (x : Result ReportRoot Refusal). Finishes c report.ask.goal (x >>= (λ root. Ok (whole report root))) d) (sym is) drawn

module _ (rules : AccessRules) (env : Env) (client : Client) (report : OpenState) {p q : Point} (later : rules.between p q) (trees : AreTrees (content_of q).revisions) where
  -- a drive
  pub drives : (root : ReportRoot) (drive : List EditorCommand) → finish_root (content_of q) report ≡ Ok root → IsDrive (content_of q) (whole report root) drive
      → Leads rules (Draws env client (EndStep report)) p q env (Driven client) (drive_replies drive)
  drives root drive is is_drive =
      only_says later (Drives drive, finishes (content_of q) report (Ok root) (Drives drive) is (drive, refl, trees, is_drive), refl)

  -- or why there is none
  pub fails : (r : Refusal) → finish_root (content_of q) report ≡ Err r → Draws env client (EndStep report) q.halted (content_of q)
      (drawn_answer env client (Fails r (Some report.ask.goal)))
  fails r is =
      let d = Fails r (Some report.ask.goal) in
      (d, finishes (content_of q) report (Err r) d is refl, refl)

  -- or memory or the sink failed
  pub lost : (writes : List ℕ → Type 0) → IsUnanswered (content_of q) report writes faults.NoMemory → StepOrNothing rules
      (Draws env client (EndStep report)) p q writes
  lost writes (inl nothing) = inl (later, nothing)
  lost writes (inr (root, is, inl nothing)) = inl (later, nothing)
  lost writes (inr (root, is, inr (drive, is_drive, part))) = told_part (drives root drive is is_drive) writes part

-- a report that leads to no drive, and nothing was written
pub undriven : (c : RepoState) (report : OpenState) (writes : List ℕ → Type 0) (fault : NotDone) → writes []
    → JudgesReport {T = ReportRoot} (Err fault) (finish_root c report) → IsUnanswered c report writes fault
undriven c report writes (faults.Refused r) nothing is = (is, nothing)
undriven c report writes faults.NoMemory nothing is = inl nothing
