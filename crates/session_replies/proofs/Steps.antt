-- A step of a session, and what becomes of its answer.
use Rattle.std.proofs.{Common.{◌≡◌, ℕ, List, [], ◌++◌, refl, sym, subst, ◌∙◌, inl, inr}, lemmas.Bool.false≢true}
use Rattle.std.specs.Prelude.{Option, Some, None, Result, Ok, Err, IsOk, IsErr, MatchResult}
use Rattle.wire_replies.specs.{declared.reply.Reply.Reply, Replies.print, Sinks.{Says, WritesPart}}
use Rattle.wire_replies.proofs.Parts.{both_written, part_behind}
use Rattle.access.specs.Points.{AccessRules, content_of, Point}
use Rattle.machine.specs.{Answers.{Answer, Behind, behind, Effect, no_effect, says, Step}, Stages.Stage}
use Rattle.machine.specs.{Steps.{AnswerWritten, EffectAt, StepAt, StepOrNothing, StepOrPart, StepWritten}, declared.env.Env.Env}

-- ---- what `machine` says of turns, by the words that are left and the bytes that are written

abbrev pub AnsweredWith : {E : Type 0} → Result Stage E → Env → (List ℕ → Type 0) → Answer → Type 0
AnsweredWith r env' writes a = MatchResult r (λ phase'. AnswerWritten a phase' env' writes) (λ _. WritesPart writes (print a.replies))

abbrev pub AnsweredIfAnyWith : {E : Type 0} → Result Stage E → Env → (List ℕ → Type 0) → Option Answer → Type 0
AnsweredIfAnyWith r env' writes (Some a) = AnsweredWith r env' writes a
AnsweredIfAnyWith r env' writes None = MatchResult r (λ _. ⊥) (λ _. writes [])

abbrev pub SteppedWith : {E : Type 0} → Result Stage E → Env → (List ℕ → Type 0) → AccessRules → Point → Point → Step → Type 0
SteppedWith r env' writes rules p q step =
    MatchResult r (λ phase'. StepWritten rules step p q phase' env' writes) (λ _. StepOrNothing rules step p q writes)

abbrev pub SteppedInPartWith : {E : Type 0} → Result Stage E → Env → (List ℕ → Type 0) → AccessRules → Point → Point → Step → Step → Type 0
SteppedInPartWith r env' writes rules p q step part =
    MatchResult r (λ phase'. StepWritten rules step p q phase' env' writes) (λ _. StepOrPart rules step part p q writes)

-- ---- a step and its answer

-- a step leads from a point to another, where the session stands there, and is to tell this
pub record Leads (rules : AccessRules) (step : Step) (p q : Point) (env : Env) (phase : Stage) (told : List Reply) : Type 0 where
  pub answer : Answer
  pub happens : StepAt rules step p answer q
  pub phase_is : phase ≡ answer.phase
  pub env_is : env ≡ answer.env
  pub told_is : told ≡ answer.replies

-- a step that is answered so
pub leads_by : {rules : AccessRules} {step : Step} {p q : Point} (a : Answer) (at : Point)
    → rules.between p at → step at.halted (content_of at) a → EffectAt rules at a.effect q → Leads rules step p q a.env a.phase a.replies
leads_by a at later step_is moves = record {
  answer = a;
  happens = record { at = at; later = later; step_is = step_is; moves = moves };
  phase_is = refl;
  env_is = refl;
  told_is = refl;
}

-- one that changes nothing, at the point that was looked at
pub leads_to : {rules : AccessRules} {step : Step} {p q : Point} (a : Answer)
    → rules.between p q → step q.halted (content_of q) a → a.effect ≡ no_effect → Leads rules step p q a.env a.phase a.replies
leads_to {rules = rules} {q = q} a later step_is nothing =
    leads_by a q later step_is (subst (λ (e : Effect). EffectAt rules q e q) (sym nothing) (q, refl, refl))

-- and behind other replies
pub leads_behind : {rules : AccessRules} {step : Step} {p q : Point} (told : List Reply) {env : Env} {phase : Stage} {own : List Reply}
    → Leads rules step p q env phase own → Leads rules (Behind told step) p q env phase (told ++ own)
leads_behind told leads = record {
  answer = behind told leads.answer;
  happens = record {
    at = leads.happens.at;
    later = leads.happens.later;
    step_is = (leads.answer, leads.happens.step_is, refl);
    moves = leads.happens.moves;
  };
  phase_is = leads.phase_is;
  env_is = leads.env_is;
  told_is = λ i. told ++ leads.told_is i;
}

module _ {rules : AccessRules} {step : Step} {p q : Point} {env : Env} {phase : Stage} {told : List Reply} where
  -- a step that changes nothing, at the point that was looked at
  pub only_says : rules.between p q → step q.halted (content_of q) (says env phase told) → Leads rules step p q env phase told
  only_says later step_is = leads_to (says env phase told) later step_is refl

  module _ (leads : Leads rules step p q env phase told) (writes : List ℕ → Type 0) where
    pub told_all : (phase' : Stage) (env' : Env) → AnswerWritten (says env phase told) phase' env' writes → StepWritten rules step p q phase' env' writes
    told_all phase' env' written = record {
      answer = leads.answer;
      happens = leads.happens;
      phase_after = written.phase_after ∙ leads.phase_is;
      env_after = written.env_after ∙ leads.env_is;
      written = subst (λ (rs : List Reply). writes (print rs)) leads.told_is written.written;
    }

    pub told_part : WritesPart writes (print told) → StepOrNothing rules step p q writes
    told_part part = inr (leads.answer, leads.happens, subst (λ (rs : List Reply). WritesPart writes (print rs)) leads.told_is part)

    -- the step has happened as far as its answer was written
    pub stepped : {E : Type 0} (r : Result Stage E) (env' : Env) → AnsweredWith r env' writes (says env phase told) → SteppedWith r env' writes rules p q step
    stepped (Ok phase') env' written = told_all phase' env' written
    stepped (Err e) env' part = told_part part

-- an answer that changes nothing, at the point that was looked at
module _ (rules : AccessRules) (step : Step) (p q : Point) (a : Answer)
    (later : rules.between p q) (is : step q.halted (content_of q) a) (nothing : a.effect ≡ no_effect) (writes : List ℕ → Type 0) where
  leads : Leads rules step p q a.env a.phase a.replies
  leads = leads_to a later is nothing

  pub said : {E : Type 0} (r : Result Stage E) (env' : Env) → AnsweredWith r env' writes a → SteppedWith r env' writes rules p q step
  said (Ok after) env' answered = told_all leads writes after env'
      (record { phase_after = answered.phase_after; env_after = answered.env_after; written = answered.written })
  said (Err e) env' part = told_part leads writes part

-- where a session stands once its replies were written
pub stood : {E F : Type 0} (r : Result Stage E) (phase : Stage) (said : Result (Unit {0}) F) (env env' : Env) (writes : List ℕ → Type 0) (told : List Reply)
    → MatchResult r (λ after. (after ≡ phase) × IsOk said) (λ _. IsErr said) → env' ≡ env → Says said writes told → AnsweredWith r env' writes (says env phase told)
stood (Ok after) phase (Ok unit) env env' writes told (is, ok) same written = record {
  phase_after = is;
  env_after = same;
  written = written;
}
stood (Ok after) phase (Err e) env env' writes told (is, ok) same part = absurd (false≢true ok)
stood (Err e) phase (Ok unit) env env' writes told err same written = absurd (false≢true err)
stood (Err e) phase (Err f) env env' writes told err same part = part

-- memory was refused: nothing was asked for, and nothing was written
pub not_asked : {rules : AccessRules} {step : Step} {writes : List ℕ → Type 0} {p q : Point}
    → ((at : Point) × rules.between p at × (q ≡ at)) → writes [] → StepOrNothing rules step p q writes
not_asked {rules = rules} {p = p} (at, later, stays) unwritten = inl (subst (λ (x : Point). rules.between p x) (sym stays) later, unwritten)

-- ---- a step of which a part may happen alone

module _ (rules : AccessRules) (step part : Step) (p q : Point) (writes : List ℕ → Type 0) where
  -- it has happened as far as its answer was written, or it has not
  pub unparted : {E : Type 0} (r : Result Stage E) (env' : Env) → SteppedWith r env' writes rules p q step → SteppedInPartWith r env' writes rules p q step part
  unparted (Ok phase') env' s = s
  unparted (Err e) env' s = inl s

  -- a part of it is a part of another
  module _ (part' : Step) (is : (at : Point) (a : Answer) → part at.halted (content_of at) a → part' at.halted (content_of at) a) where
    part_is : StepOrPart rules step part p q writes → StepOrPart rules step part' p q writes
    part_is (inl whole) = inl whole
    part_is (inr (a, s, unwritten)) = inr (a, record { at = s.at; later = s.later; step_is = is s.at a s.step_is; moves = s.moves }, unwritten)

    pub parted : {E : Type 0} (r : Result Stage E) (env' : Env) → SteppedInPartWith r env' writes rules p q step part → SteppedInPartWith r env' writes rules p q
        step part'
    parted (Ok phase') env' s = s
    parted (Err e) env' s = part_is s

module _ {S : Type 0} (writes : S → S → List ℕ → Type 0)
    (further : (s t u : S) (first second : List ℕ) → writes s t first → writes t u second → writes s u (first ++ second)) where
  -- an answer behind replies that were written
  pub behind_answered : {E : Type 0} (r : Result Stage E) (told : List Reply) (a : Answer) (env' : Env) (out mid out' : S)
      → writes out mid (print told) → AnsweredWith r env' (writes mid out') a → AnsweredWith r env' (writes out out') (behind told a)
  behind_answered (Ok phase) told a env' out mid out' before answered = record {
    phase_after = answered.phase_after;
    env_after = answered.env_after;
    written = both_written writes further out mid out' told a.replies before answered.written;
  }
  behind_answered (Err e) told a env' out mid out' before part = part_behind writes further out mid out' told a.replies before part
