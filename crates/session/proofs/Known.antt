-- What is known of an input for which a text was read: the machine's step, where what was read is known; and, whatever was read,
-- what the session stands on.
use Rattle.std.proofs.Common.{◌≡◌, ℕ, List, [], sym, subst, inl, inr}
use Rattle.std.specs.Prelude.{Bool, Result}
use Rattle.repo_api.specs.{Accepted.{Accepted, changed}, Soundness.AreSound, States.{IsBeginning, RepoState}}
use Rattle.wire_edits.specs.{Editing.editor_command, declared.editing.EditorCommand.EditorCommand}
use Rattle.wire_forms.specs.declared.fault.CommandFault.{CommandFault}
use Rattle.access.specs.Points.{AccessRules, content_of, Point}
use Rattle.machine.specs.{Answers.{Answer, Step, content_after}, Hearing.Input, Hearing.Input.{Broken, Whole}, Settings.Settings, Soundness.MeetBy}
use Rattle.machine.specs.{Machine.{EditingStep, editing_weaker, InputStep, MachineEdit, UnreleasedStep}, Stages.{Stage, StandsOn}}
use Rattle.machine.specs.{Steps.{StepAt, StepOrPart, StepWritten}, declared.env.Env.Env}
use Rattle.machine.specs.declared.phase.Phase.TheVariants.{Greeted, LoggingIn, Challenged, Serving, Editing, Skipping, Reporting, Driven, Ended}
use Rattle.machine.proofs.Resting.{grown, stands_after}
use Rattle.session.specs.Knowing.{StepIfKnown}
use Rattle.session.proofs.Follows.{lost_so, written_so}

-- what was read before was known, where what was read is
module _ {S : Type 0} (honest : S → Type 0) (writes : S → S → List ℕ → Type 0)
    (kept : (s t : S) (bytes : List ℕ) → writes s t bytes → honest t → honest s) (rules : AccessRules) (step : Step) (p q : Point) (s t : S) where
  pub known_written : (phase' : Stage) (env' : Env) → StepWritten rules step p q phase' env' (writes s t) → honest t → honest s
  known_written phase' env' w known = kept s t _ w.written known

  pub known_lost : (part : Step) → StepOrPart rules step part p q (writes s t) → honest t → honest s
  known_lost part (inl (inl (later, w))) known = kept s t [] w known
  known_lost part (inl (inr (a, happens, w))) known = kept s t w.part w.wrote known
  known_lost part (inr (a, happens, w)) known = kept s t [] w known

-- ---- the step

module _ (known : Type 0) (s : Settings) (env : Env) (halted : Bool) (c : RepoState) where
  pub is_step : known → (phase : Stage) (input : Input) (a : Answer) → StepIfKnown known s env phase input halted c a → InputStep s env phase input halted c a
  is_step k (Editing edit) (Whole t) a step = editing_weaker (λ _. k) env edit (editor_command t) halted c a step
  is_step k (Editing edit) Broken a step = step
  is_step k Greeted input a step = step
  is_step k (LoggingIn login) input a step = step
  is_step k (Challenged pending) input a step = step
  is_step k (Serving client) input a step = step
  is_step k (Skipping client) input a step = step
  is_step k (Reporting reporting) input a step = step
  is_step k (Driven client) input a step = step
  is_step k Ended input a step = step

  pub broken_is_known : (phase : Stage) (a : Answer) → InputStep s env phase Broken halted c a → StepIfKnown known s env phase Broken halted c a
  broken_is_known (Editing edit) a step = step
  broken_is_known Greeted a step = step
  broken_is_known (LoggingIn login) a step = step
  broken_is_known (Challenged pending) a step = step
  broken_is_known (Serving client) a step = step
  broken_is_known (Skipping client) a step = step
  broken_is_known (Reporting reporting) a step = step
  broken_is_known (Driven client) a step = step
  broken_is_known Ended a step = step

module _ (rules : AccessRules) (known : Type 0) (k : known) (s : Settings) (env : Env) (phase : Stage) (input : Input) (p q : Point) (writes : List ℕ → Type 0) where
  goes : (at : Point) (a : Answer) → StepIfKnown known s env phase input at.halted (content_of at) a → InputStep s env phase input at.halted (content_of at) a
  goes at a step = is_step known s env at.halted (content_of at) k phase input a step

  pub served_so : (phase' : Stage) (env' : Env) → StepWritten rules (StepIfKnown known s env phase input) p q phase' env' writes
      → StepWritten rules (InputStep s env phase input) p q phase' env' writes
  served_so phase' env' w = written_so rules (StepIfKnown known s env phase input) (InputStep s env phase input) goes p q writes phase' env' w

  pub failed_so : StepOrPart rules (StepIfKnown known s env phase input) (UnreleasedStep env phase input) p q writes
      → StepOrPart rules (InputStep s env phase input) (UnreleasedStep env phase input) p q writes
  failed_so w = lost_so rules (StepIfKnown known s env phase input) (InputStep s env phase input) goes p q (UnreleasedStep env phase input) writes w

-- ---- what the session stands on

module _ (rules : AccessRules)
    (keeps : (p q : Point) → rules.between p q → IsBeginning (content_of p).revisions (content_of q).revisions)
    (counts : (p : Point) (e : Accepted) (q : Point) → rules.adds p e q → (content_of q ≡ changed (content_of p) e) × (q.halted ≡ p.halted) × (q.failures ≡ p.failures) × (q.pending ≡ p.pending))
    (known : Type 0) (s : Settings) (env : Env) (phase : Stage) (input : Input) (p q : Point) (writes : List ℕ → Type 0) where
  -- what exists stays
  pub stays_written : (phase' : Stage) (env' : Env) → StepWritten rules (StepIfKnown known s env phase input) p q phase' env' writes
      → IsBeginning (content_of p).revisions (content_of q).revisions
  stays_written phase' env' w = grown rules keeps counts (StepIfKnown known s env phase input) p q w.answer w.happens

  pub stays_lost : StepOrPart rules (StepIfKnown known s env phase input) (UnreleasedStep env phase input) p q writes
      → IsBeginning (content_of p).revisions (content_of q).revisions
  stays_lost (inl (inl (later, unwritten))) = keeps p q later
  stays_lost (inl (inr (a, happens, told))) = grown rules keeps counts (StepIfKnown known s env phase input) p q a happens
  stays_lost (inr (a, happens, unwritten)) = grown rules keeps counts (UnreleasedStep env phase input) p q a happens

  module _ (sound : (p q : Point) → rules.between p q → AreSound (content_of p).revisions → AreSound (content_of q).revisions)
      (step_keeps : (halted : Bool) (s : Settings) (env : Env) (c : RepoState) (phase : Stage) (input : Input) (a : Answer)
      → StandsOn phase c → InputStep s env phase input halted c a → StandsOn a.phase (content_after c a.effect) × MeetBy c a.effect.changes)
      (read_keeps : (halted : Bool) (env : Env) (c : RepoState) (edit : MachineEdit) (r : Result EditorCommand CommandFault) (a : Answer)
      → StandsOn (Editing edit) c → EditingStep ⊥ env edit r halted c a → StandsOn a.phase (content_after c a.effect) × MeetBy c a.effect.changes) where
    keeps_it : (halted : Bool) (c : RepoState) (at : Stage) (heard : Input) (a : Answer)
        → StandsOn at c → StepIfKnown known s env at heard halted c a → StandsOn a.phase (content_after c a.effect)
    keeps_it halted c (Editing edit) (Whole t) a h step =
        (read_keeps halted env c edit (editor_command t) a h (editing_weaker (λ none. absurd none) env edit (editor_command t) halted c a step)).0
    keeps_it halted c (Editing edit) Broken a h step = (step_keeps halted s env c (Editing edit) Broken a h step).0
    keeps_it halted c Greeted heard a h step = (step_keeps halted s env c Greeted heard a h step).0
    keeps_it halted c (LoggingIn login) heard a h step = (step_keeps halted s env c (LoggingIn login) heard a h step).0
    keeps_it halted c (Challenged pending) heard a h step = (step_keeps halted s env c (Challenged pending) heard a h step).0
    keeps_it halted c (Serving client) heard a h step = (step_keeps halted s env c (Serving client) heard a h step).0
    keeps_it halted c (Skipping client) heard a h step = (step_keeps halted s env c (Skipping client) heard a h step).0
    keeps_it halted c (Reporting reporting) heard a h step = (step_keeps halted s env c (Reporting reporting) heard a h step).0
    keeps_it halted c (Driven client) heard a h step = (step_keeps halted s env c (Driven client) heard a h step).0
    keeps_it halted c Ended heard a h step = (step_keeps halted s env c Ended heard a h step).0

    stood : (a : Answer) → StepAt rules (StepIfKnown known s env phase input) p a q → StandsOn phase (content_of p) → StandsOn a.phase (content_of q)
    stood a happens rests =
        stands_after rules keeps counts sound (StepIfKnown known s env phase input) p q phase a
        (λ at h step. keeps_it at.halted (content_of at) phase input a h step) happens rests

    pub rests_served : (phase' : Stage) (env' : Env) → StepWritten rules (StepIfKnown known s env phase input) p q phase' env' writes
        → StandsOn phase (content_of p) → StandsOn phase' (content_of q)
    rests_served phase' env' w rests = subst (λ (x : Stage). StandsOn x (content_of q)) (sym w.phase_after) (stood w.answer w.happens rests)

    -- for want of memory the session has ended, and the repository is sound
    pub trees_failed : ((halted : Bool) (env : Env) (c : RepoState) (phase : Stage) (input : Input) (a : Answer)
        → StandsOn phase c → UnreleasedStep env phase input halted c a → StandsOn a.phase (content_after c a.effect) × MeetBy c a.effect.changes)
        → StepOrPart rules (StepIfKnown known s env phase input) (UnreleasedStep env phase input) p q writes
        → StandsOn phase (content_of p) → AreSound (content_of q).revisions
    trees_failed part_keeps (inl (inl (later, unwritten))) rests = sound p q later rests.trees
    trees_failed part_keeps (inl (inr (a, happens, told))) rests = (stood a happens rests).trees
    trees_failed part_keeps (inr (a, happens, unwritten)) rests =
        (stands_after rules keeps counts sound (UnreleasedStep env phase input) p q phase a
        (λ at h step. (part_keeps at.halted env (content_of at) phase input a h step).0) happens rests).trees
