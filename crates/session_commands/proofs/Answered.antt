-- Answers to commands that change nothing, behind what their clients are told before.
use Rattle.std.proofs.Common.{◌≡◌, ℕ, List, [], refl}
use Rattle.std.specs.Prelude.{Result, Ok, Err, IfOk}
use Rattle.svnpath.specs.{Paths.PathValue, declared.fault.PathFault.PathFault}
use Rattle.refusals.specs.declared.Refusal.{Refusal}
use Rattle.wire_replies.specs.declared.reply.Reply.{Reply}
use Rattle.access.specs.Points.{AccessRules, content_of, Point}
use Rattle.machine.specs.{Answers.{Answer, Behind, behind, no_effect, says, Step}, Commands.{commit_begins, reparented}, Settings.Settings, Stages.Stage}
use Rattle.machine.specs.{declared.commit_parameters.CommitParameters.CommitParameters, declared.env.Env.Env, declared.phase.Phase.TheVariants.Reporting}
use Rattle.machine.specs.declared.phase.Client.{Client}
use Rattle.reporter.specs.Refusing.{ReportState}
use Rattle.session_replies.proofs.Steps.{AnsweredWith, said, SteppedWith}

-- the beginning of a commit changes nothing
pub begins : (s : Settings) (env : Env) (client : Client) (asked : Result CommitParameters Refusal) → (commit_begins s env client asked).effect ≡ no_effect
begins s env client (Ok asked) = refl
begins s env client (Err r) = refl

-- and so does another URL
pub moves : (env : Env) (client : Client) (path : Result PathValue PathFault) → (reparented env client path).effect ≡ no_effect
moves env client (Ok path) = refl
moves env client (Err fault) = refl

module _ (rules : AccessRules) (step : Step) {p q : Point} (before : List Reply) (later : rules.between p q) where
  -- an answer that changes nothing
  pub answered : (a : Answer) → step q.halted (content_of q) a → a.effect ≡ no_effect → (writes : List ℕ → Type 0) → {E : Type 0} (r : Result Stage E)
      (env' : Env)
      → AnsweredWith r env' writes (behind before a) → SteppedWith r env' writes rules p q (Behind before step)
  answered a is nothing writes r env' told = said rules (Behind before step) p q (behind before a) later (a, is, refl) nothing writes r env' told

  -- a report that begins, if it could be made
  pub opened : (env : Env) (client : Client) (told : ReportState) → step q.halted (content_of q)
      (says env (Reporting (record { client = client; report = told })) [])
      → (writes : List ℕ → Type 0) → {E F : Type 0} (report : Result ReportState F) (r : Result Stage E) (env' : Env) → IfOk report (λ made. made ≡ told)
      → ((x : ReportState) → IfOk report (λ made. made ≡ x)
      → AnsweredWith r env' writes (behind before (says env (Reporting (record { client = client; report = x })) [])))
      → SteppedWith r env' writes rules p q (Behind before step)
  opened env client told is writes report r env' made said_so =
      answered (says env (Reporting (record { client = client; report = told })) []) is refl writes r env' (said_so told made)
