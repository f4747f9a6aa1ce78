-- What becomes of a session's steps: each happens at one point of the repository, and its replies
-- are written, or a part of them where memory or the sink fails.
use Rattle.std.specs.{Prelude.{◌≡◌, ◌⊎◌, ℕ, true, List, [], ◌∷◌, ◌++◌, Option, Some, None, Result, MatchResult}, Option.option_to_list}
use Rattle.repo_api.specs.{Accepted.Accepted, States.RepoState}
use Rattle.wire_replies.specs.{declared.reply.Reply.Reply, Replies.print, Sinks.WritesPart}
use Rattle.access.specs.{Changing.{IsFailure, IsHalt}, Points.{AccessRules, content_of, Point}}
use Rattle.machine.specs.{declared.env.Env.Env, declared.turn.Turn.Turn, Stages.{Stage, is_open}, Settings.Settings, Hearing.{Input, Yields, HasNoMore}}
use Rattle.machine.specs.{Answers.{Verdict, Effect, Answer, Step}, Machine.{InputStep, UnreleasedStep}, Answers.Verdict.{Written, NotWritten, Unknown}}

-- ---- at a point of the repository

-- the session's own changes, one after another
abbrev pub AddsAll : AccessRules → Point → List Accepted → Point → Type 0
AddsAll rules p [] q = q ≡ p
AddsAll rules p (e ∷ es) q = (mid : Point) × rules.adds p e mid × AddsAll rules mid es q

-- what the store did last
abbrev pub Stores : Verdict → Point → Point → Type 0
Stores Written p q = q ≡ p
Stores NotWritten p q = IsFailure p q
Stores (Unknown e) p q = IsHalt e p q

-- from a point on to the next by an effect
abbrev pub EffectAt : AccessRules → Point → Effect → Point → Type 0
EffectAt rules p effect q =
    (mid : Point) × AddsAll rules p effect.changes mid × Stores effect.store mid q

-- a step happens at one point: what others did before it, the answer there, and the answer's effect
pub record StepAt (rules : AccessRules) (step : Step) (p : Point) (a : Answer) (q : Point)
    : Type 0 where
  pub at : Point
  pub later : rules.between p at
  pub step_is : step at.halted (content_of at) a
  pub moves : EffectAt rules at a.effect q

-- one input after another
abbrev pub SessionRun : AccessRules → Settings → Env → Point → Stage → List Input → List Reply → Env
    → Point → Stage → Type 0
SessionRun rules s env p phase [] told env' p' phase' =
    rules.between p p' × (told ≡ []) × (env' ≡ env) × (phase' ≡ phase)
SessionRun rules s env p phase (input ∷ inputs) told env' p' phase' =
    (a : Answer) × (q : Point) × (more : List Reply)
    × StepAt rules (InputStep s env phase input) p a q
    × SessionRun rules s a.env q a.phase inputs more env' p' phase' × (told ≡ a.replies ++ more)

-- ---- and written

-- an answer's replies are written: the session stands where it says, and these words are left
pub record AnswerWritten (a : Answer) (phase' : Stage) (env' : Env) (writes : List ℕ
    → Type 0) : Type 0 where
  pub phase_after : phase' ≡ a.phase
  pub env_after : env' ≡ a.env
  pub written : writes (print a.replies)

-- a step has happened, and its replies are written
pub record StepWritten (rules : AccessRules) (step : Step) (p q : Point) (phase' : Stage)
    (env' : Env) (writes : List ℕ → Type 0) : Type 0 where
  pub answer : Answer
  pub happens : StepAt rules step p answer q
  pub phase_after : phase' ≡ answer.phase
  pub env_after : env' ≡ answer.env
  pub written : writes (print answer.replies)

-- where memory or the sink has failed: the step has not happened, and nothing was written; or it
-- has, and a part of its replies was written
abbrev pub StepOrNothing : AccessRules → Step → Point → Point → (List ℕ → Type 0) → Type 0
StepOrNothing rules step p q writes =
    (rules.between p q × writes []) ⊎ ((a : Answer) × StepAt rules step p a q
    × WritesPart writes (print a.replies))

-- so it is; or a part of the step has happened, and nothing was written
abbrev pub StepOrPart : AccessRules → Step → Step → Point → Point → (List ℕ → Type 0) → Type 0
StepOrPart rules step part p q writes =
    StepOrNothing rules step p q writes ⊎ ((a : Answer) × StepAt rules part p a q × writes [])

-- ---- as results

-- from a turn to another an answer is written, and the session stands where it says, with these words
-- left; or, where there is an error, a part of it is written
abbrev pub Answered : {S E : Type 0} → Result Stage E → (S → S → List ℕ → Type 0) → Turn S → Turn S
    → Answer → Type 0
Answered r writes old new a =
    MatchResult r (λ phase'. AnswerWritten a phase' new.env (writes old.out new.out))
    (λ _. WritesPart (writes old.out new.out) (print a.replies))

-- so it is where there is an answer; where there is none, there is an error, and nothing is written
abbrev pub AnsweredIfAny : {S E : Type 0} → Result Stage E → (S → S → List ℕ → Type 0) → Turn S
    → Turn S → Option Answer → Type 0
AnsweredIfAny r writes old new (Some a) = Answered r writes old new a
AnsweredIfAny r writes old new None = MatchResult r (λ _. ⊥) (λ _. writes old.out new.out [])

-- from a turn to another, and from a point that is reached to another, a step has happened and is
-- written; or, where there is an error, it has not happened, or a part of it is written
abbrev pub Stepped : {S A E : Type 0} → Result Stage E → (S → S → List ℕ → Type 0) → Turn S → Turn S
    → AccessRules → (A → Point) → A → A → Step → Type 0
Stepped r writes old new rules point before after step =
    MatchResult r (λ phase'. StepWritten rules step (point before) (point after) phase' new.env
    (writes old.out new.out))
    (λ _. StepOrNothing rules step (point before) (point after) (writes old.out new.out))

-- so it is of a step of which a part may happen alone, where there is an error
abbrev pub SteppedInPart : {S A E : Type 0} → Result Stage E → (S → S → List ℕ → Type 0) → Turn S
    → Turn S → AccessRules → (A → Point) → A → A → Step → Step → Type 0
SteppedInPart r writes old new rules point before after step part =
    MatchResult r (λ phase'. StepWritten rules step (point before) (point after) phase' new.env
    (writes old.out new.out))
    (λ _. StepOrPart rules step part (point before) (point after) (writes old.out new.out))

-- the repository is looked at, between two points that are reached: so it is with what it contains at
-- the later
abbrev pub Looks : {A : Type 0} → AccessRules → (A → Point) → A → A → (RepoState → Type 0) → Type 0
Looks rules point before after IsSo =
    rules.between (point before) (point after) × IsSo (content_of (point after))

-- ---- a stream's inputs

-- the stream's inputs have happened, and their replies are written; a session that is still open
-- leaves none
pub record FeedWritten (rules : AccessRules) (s : Settings) (env : Env) (p : Point) (phase : Stage)
    (stream rest : List ℕ) (q : Point) (phase' : Stage) (writes : List ℕ → Type 0) : Type 0 where
  pub inputs : List Input
  pub yields : Yields stream inputs rest
  pub settled : is_open phase' ≡ true → HasNoMore rest
  pub told : List Reply
  pub env_after : Env
  pub run : SessionRun rules s env p phase inputs told env_after q phase'
  pub written : writes (print told)

-- the last input of a session that is gone, if one was left: memory was refused for the release
-- behind its commit
abbrev pub Leaves : AccessRules → Env → Point → Stage → Option Input → Point → Type 0
Leaves rules env p phase None q = q ≡ p
Leaves rules env p phase (Some input) q =
    (a : Answer) × StepAt rules (UnreleasedStep env phase input) p a q

-- some of the stream's inputs have happened in order, and a part of their replies was written; then
-- the session is gone, at once or by one more input, of which nothing is told
pub record FeedLost (rules : AccessRules) (s : Settings) (env : Env) (p : Point) (phase : Stage)
    (stream : List ℕ) (q : Point) (writes : List ℕ → Type 0) : Type 0 where
  pub inputs : List Input
  pub left : Option Input
  pub rest : List ℕ
  pub yields : Yields stream (inputs ++ option_to_list left) rest
  pub told : List Reply
  pub env_after : Env
  pub point_after : Point
  pub phase_after : Stage
  pub run : SessionRun rules s env p phase inputs told env_after point_after phase_after
  pub leaves : Leaves rules env_after point_after phase_after left q
  pub written : WritesPart writes (print told)
