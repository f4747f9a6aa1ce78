-- A session's run is a run of the hub.
use Rattle.std.specs.Prelude.{if◌then◌else◌}
use Rattle.std.proofs.Common.{◌≡◌, ℕ, List, [], ◌∷◌, ◌++◌, map, Option, Some, None, ◌||◌, Bool, true, false, refl, sym, ap, subst, ◌∙◌, append_assoc}
use Rattle.repo_api.specs.{Accepted.{Accepted, changed, changed_all}, States.RepoState}
use Rattle.wire_replies.specs.declared.reply.Reply.{Reply}
use Rattle.access.specs.{Changing.unchanged_content, Points.{AccessRules, content_of, Point}}
use Rattle.machine.specs.Answers.{Answer, content_after, Counts, Effect, halted_after, is_halt, no_effect, pending_after, pending_by, says, Step, Verdict}
use Rattle.machine.specs.{Answers.Verdict.{NotWritten, Unknown, Written}, Hearing.Input, Machine.{InputStep, UnreleasedStep}, Settings.Settings}
use Rattle.machine.specs.{Stages.{is_open, SessionState, Stage}, Steps.{AddsAll, EffectAt, Leaves as LeavesAt, SessionRun, StepAt, Stores}}
use Rattle.machine.specs.declared.env.Env.{Env}
use Rattle.machine.specs.declared.phase.Phase.TheVariants.{Greeted, LoggingIn, Challenged, Serving, Editing, Skipping, Reporting, Driven, Ended}
use Rattle.hub.specs.{Runs.{answered, CommitLeaves, ends_of, Event, HubRun, HubStep, InputHappens, InputsAre}, Runs.Event.{Drops, Hears, Leaves}}
use Rattle.hub.specs.{SessionLaws.{session_of-updated, session_of-without}, State.{hub_at, HubState, kept, session_of, updated, without}}
use Rattle.hub.proofs.{Effects.or_false, Failing.or_true, Places.{updated_same, without_none, kept_kept, kept_ended, without-kept}}

abbrev pub events_of : ℕ → List Input → List Event
events_of n inputs = map (Hears n) inputs

pub inputs_are : (n : ℕ) (inputs : List Input) → InputsAre n inputs (events_of n inputs)
inputs_are n [] = tt
inputs_are n (input ∷ inputs) = (refl, refl, inputs_are n inputs)

-- a session's state, if it is open
abbrev pub living : SessionState → Option SessionState
living s = if is_open s.phase then Some s else None

-- the number has this session, or none where it has ended
abbrev pub Holds : List (ℕ × SessionState) → ℕ → List ℕ → Stage → Type 0
Holds xs n r phase = session_of xs n ≡ living (record { rest = r; phase = phase })

if_true : {A : Type 0} (b : Bool) (x y : A) → b ≡ true → (if b then x else y) ≡ x
if_true true x y e = refl
if_true false x y e = cc

if_false : {A : Type 0} (b : Bool) (x y : A) → b ≡ false → (if b then x else y) ≡ y
if_false false x y e = refl
if_false true x y e = cc

ended_is : (phase : Stage) → is_open phase ≡ false → phase ≡ Ended
ended_is Greeted e = cc
ended_is (LoggingIn login) e = cc
ended_is (Challenged pending) e = cc
ended_is (Serving client) e = cc
ended_is (Editing edit) e = cc
ended_is (Skipping client) e = cc
ended_is (Reporting reporting) e = cc
ended_is (Driven client) e = cc
ended_is Ended e = refl

pub holds_open : (xs : List (ℕ × SessionState)) (n : ℕ) (r : List ℕ) (phase : Stage) → is_open phase ≡ true → session_of xs n ≡ Some (record { rest = r; phase = phase }) → Holds xs n r phase
holds_open xs n r phase o h = h ∙ sym (if_true (is_open phase) (Some (record { rest = r; phase = phase })) None o)

found_open : (xs : List (ℕ × SessionState)) (n : ℕ) (r : List ℕ) (phase : Stage) → is_open phase ≡ true → Holds xs n r phase → session_of xs n ≡ Some (record { rest = r; phase = phase })
found_open xs n r phase o h = h ∙ if_true (is_open phase) (Some (record { rest = r; phase = phase })) None o

none_ended : (xs : List (ℕ × SessionState)) (n : ℕ) (r : List ℕ) (phase : Stage) → is_open phase ≡ false → Holds xs n r phase → session_of xs n ≡ None
none_ended xs n r phase o h = h ∙ if_false (is_open phase) (Some (record { rest = r; phase = phase })) None o

pub holds_kept : (xs : List (ℕ × SessionState)) (n : ℕ) (r : List ℕ) (s : SessionState) (phase : Stage) → session_of xs n ≡ Some s → Holds (kept xs n (record { rest = r; phase = phase })) n r phase
holds_kept xs n r s phase h =
    let t : SessionState = record { rest = r; phase = phase } in
    elim (is_open phase) as (λ b. session_of (if b then updated xs n t else without xs n) n ≡ (if b then Some t else None))
    [ true ↦ session_of-updated xs n s t h | false ↦ session_of-without xs n ]

same_state : (xs : List (ℕ × SessionState)) (n : ℕ) (r : List ℕ) (phase : Stage) → Holds xs n r phase → kept xs n (record { rest = r; phase = phase }) ≡ xs
same_state xs n r phase h =
    let t : SessionState = record { rest = r; phase = phase } in
    elim (is_open phase) as (λ b. session_of xs n ≡ (if b then Some t else None) → (if b then updated xs n t else without xs n) ≡ xs)
    [ true ↦ λ e. updated_same xs n t e | false ↦ λ e. without_none xs n e ] h

-- others change nothing
abbrev pub StandsAlone : AccessRules → Type 0
StandsAlone rules = (p q : Point) → rules.between p q
    → (content_of p ≡ content_of q) × (p.halted ≡ q.halted) × (p.failures ≡ q.failures) × (p.pending ≡ q.pending)

-- a change is the one that was asked for
abbrev pub AddsOwn : AccessRules → Type 0
AddsOwn rules = (p : Point) (e : Accepted) (q : Point) → rules.adds p e q
    → (content_of q ≡ changed (content_of p) e) × (q.halted ≡ p.halted) × (q.failures ≡ p.failures) × (q.pending ≡ p.pending)

module _ (rules : AccessRules) (s : Settings) (alone : StandsAlone rules) (counts : AddsOwn rules) where
  -- what an effect makes of a point
  record Moved (p : Point) (e : Effect) (q : Point) : Type 0 where
    content : content_of q ≡ content_after (content_of p) e
    halted : q.halted ≡ halted_after p.halted e
    counted : Counts e.store p.failures q.failures
    pending : q.pending ≡ pending_after p.pending e

  record Added (p : Point) (es : List Accepted) (q : Point) : Type 0 where
    content : content_of q ≡ changed_all (content_of p) es
    halted : q.halted ≡ p.halted
    failures : q.failures ≡ p.failures
    pending : q.pending ≡ p.pending

  added : (p : Point) (es : List Accepted) (q : Point) → AddsAll rules p es q → Added p es q
  added p [] q is = record { content = ap content_of is; halted = ap (λ (x : Point). x.halted) is; failures = ap (λ (x : Point). x.failures) is; pending = ap (λ (x : Point). x.pending) is }
  added p (e ∷ es) q (mid, first, rest) =
      let one = counts p e mid first in
      let more = added mid es q rest in
      record { content = more.content ∙ ap (λ (c : RepoState). changed_all c es) one.0; halted = more.halted ∙ one.1; failures = more.failures ∙ one.2; pending = more.pending ∙ one.3 }

  stored : (v : Verdict) (p q : Point) → Stores v p q → (content_of q ≡ content_of p) × (q.halted ≡ (p.halted || is_halt v)) × Counts v p.failures q.failures × (q.pending ≡ pending_by p.pending v)
  stored Written p q is = (ap content_of is, ap (λ (x : Point). x.halted) is ∙ sym (or_false p.halted), ap (λ (x : Point). x.failures) is, ap (λ (x : Point). x.pending) is)
  stored NotWritten p q failed = (unchanged_content p q failed.same, failed.halted ∙ sym (or_false p.halted), failed.risen, failed.pending)
  stored (Unknown e) p q halt = (unchanged_content p q halt.same, halt.halted ∙ sym (or_true p.halted), halt.risen, halt.pending)

  moved : (p : Point) (e : Effect) (q : Point) → EffectAt rules p e q → Moved p e q
  moved p e q (mid, adding, storing) =
      let all = added p e.changes mid adding in
      let last = stored e.store mid q storing in
      record {
        content = last.0 ∙ all.content;
        halted = last.1 ∙ ap (λ (b : Bool). b || is_halt e.store) all.halted;
        counted = subst (λ (n : ℕ). Counts e.store n q.failures) all.failures last.2;
        pending = last.3 ∙ ap (λ (o : Option Accepted). pending_by o e.store) all.pending;
      }

  -- the effect of a step leads to the next point
  served : (step : Step) (p : Point) (a : Answer) (q : Point) → StepAt rules step p a q → Moved p a.effect q
  served step p a q serves =
      let same = alone p serves.at serves.later in
      let on = moved serves.at a.effect q serves.moves in
      record {
        content = on.content ∙ ap (λ (w : RepoState). content_after w a.effect) (sym same.0);
        halted = on.halted ∙ ap (λ (b : Bool). halted_after b a.effect) (sym same.1);
        counted = subst (λ (n : ℕ). Counts a.effect.store n q.failures) (sym same.2) on.counted;
        pending = on.pending ∙ ap (λ (o : Option Accepted). pending_after o a.effect) (sym same.3);
      }

  -- the input's answer stands at the point where the hub is
  step_here : (env : Env) (p : Point) (phase : Stage) (input : Input) (a : Answer) (q : Point) → StepAt rules (InputStep s env phase input) p a q
      → InputStep s env phase input p.halted (content_of p) a
  step_here env p phase input a q serves =
      let same = alone p serves.at serves.later in
      subst (λ (w : RepoState). InputStep s env phase input p.halted w a) (sym same.0)
      (subst (λ (b : Bool). InputStep s env phase input b (content_of serves.at) a) (sym same.1) serves.step_is)

  -- only an open session is gone so
  leaves_open : (halted : Bool) (env : Env) (c : RepoState) (phase : Stage) (input : Input) (a : Answer) → UnreleasedStep env phase input halted c a
      → is_open phase ≡ true
  leaves_open halted env c (Editing edit) input a step = refl
  leaves_open halted env c Greeted input a step = absurd step
  leaves_open halted env c (LoggingIn login) input a step = absurd step
  leaves_open halted env c (Challenged pending) input a step = absurd step
  leaves_open halted env c (Serving client) input a step = absurd step
  leaves_open halted env c (Skipping client) input a step = absurd step
  leaves_open halted env c (Reporting reporting) input a step = absurd step
  leaves_open halted env c (Driven client) input a step = absurd step
  leaves_open halted env c Ended input a step = absurd step

  -- so does that of a commit whose session is gone
  leaves_here : (env : Env) (p : Point) (phase : Stage) (input : Input) (a : Answer) (q : Point) → StepAt rules (UnreleasedStep env phase input) p a q
      → UnreleasedStep env phase input p.halted (content_of p) a
  leaves_here env p phase input a q serves =
      let same = alone p serves.at serves.later in
      subst (λ (w : RepoState). UnreleasedStep env phase input p.halted w a) (sym same.0)
      (subst (λ (b : Bool). UnreleasedStep env phase input b (content_of serves.at) a) (sym same.1) serves.step_is)

  answered_at : (p : Point) (r : List ℕ) (phase : Stage) (a : Answer) (q : Point) (xs : List (ℕ × SessionState)) (used n : ℕ) → Moved p a.effect q
      → hub_at s q (kept xs n (record { rest = r; phase = a.phase })) used ≡ answered (hub_at s p xs used) n (record { rest = r; phase = phase }) a q.failures
  answered_at p r phase a q xs used n on =
      let content : content_of q ≡ content_after (content_of p) a.effect = on.content in
      let halted : q.halted ≡ halted_after p.halted a.effect = on.halted in
      let pending : q.pending ≡ pending_after p.pending a.effect = on.pending in
      λ i. record {
        settings = s;
        content = content i;
        halted = halted i;
        failures = q.failures;
        pending = pending i;
        sessions = kept xs n (record { rest = r; phase = a.phase });
        used = used;
      }

  -- a session that has ended does nothing more
  record Quiet (env : Env) (p : Point) (told : List Reply) (env' : Env) (p' : Point) (phase' : Stage) : Type 0 where
    content_is : content_of p' ≡ content_of p
    halted_is : p'.halted ≡ p.halted
    failures_is : p'.failures ≡ p.failures
    pending_is : p'.pending ≡ p.pending
    silent : told ≡ []
    words : env' ≡ env
    ended : phase' ≡ Ended

  quiet : (env : Env) (p : Point) (inputs : List Input) (told : List Reply) (env' : Env) (p' : Point) (phase' : Stage)
      → SessionRun rules s env p Ended inputs told env' p' phase' → Quiet env p told env' p' phase'
  quiet env p [] told env' p' phase' run =
      let same = alone p p' run.0 in
      record { content_is = sym same.0; halted_is = sym same.1; failures_is = sym same.2; pending_is = sym same.3; silent = run.1; words = run.2; ended = run.3 }
  quiet env p (input ∷ inputs) told env' p' phase' (a, q, more, serves, run, is_told) =
      let is : a ≡ says env Ended [] = serves.step_is in
      let run' : SessionRun rules s env q Ended inputs more env' p' phase' = subst (λ (b : Answer). SessionRun rules s b.env q b.phase inputs more env' p' phase') is run in
      let moves : EffectAt rules serves.at no_effect q = subst (λ (b : Answer). EffectAt rules serves.at b.effect q) is serves.moves in
      let stays : q ≡ serves.at = moves.2 ∙ moves.1 in
      let same = alone p serves.at serves.later in
      let rest = quiet env q inputs more env' p' phase' run' in
      record {
        content_is = rest.content_is ∙ ap content_of stays ∙ sym same.0;
        halted_is = rest.halted_is ∙ ap (λ (x : Point). x.halted) stays ∙ sym same.1;
        failures_is = rest.failures_is ∙ ap (λ (x : Point). x.failures) stays ∙ sym same.2;
        pending_is = rest.pending_is ∙ ap (λ (x : Point). x.pending) stays ∙ sym same.3;
        silent = is_told ∙ ap (λ (b : Answer). b.replies ++ more) is ∙ rest.silent;
        words = rest.words;
        ended = rest.ended;
      }

  -- inputs of a session that isn't open are dropped
  dropped : (old : HubState) (env : Env) (n : ℕ) (inputs : List Input) → session_of old.sessions n ≡ None → HubRun old env (events_of n inputs) [] old env
  dropped old env n [] h = (refl, refl, refl)
  dropped old env n (input ∷ inputs) h =
      ([], old, env, [], subst (λ (o : Option SessionState). InputHappens old env n o input [] old env) (sym h) (refl, refl, refl), dropped old env n inputs h, refl)

  -- the last state of the session alone counts
  finals : (xs : List (ℕ × SessionState)) (n : ℕ) (r : List ℕ) (env : Env) (p : Point) (phase : Stage) (inputs : List Input) (told : List Reply) (env' : Env) (p' : Point) (phase' : Stage)
      → SessionRun rules s env p phase inputs told env' p' phase'
      → kept (kept xs n (record { rest = r; phase = phase })) n (record { rest = r; phase = phase' }) ≡ kept xs n (record { rest = r; phase = phase' })
  finals xs n r env p phase inputs told env' p' phase' run =
      let t : SessionState = record { rest = r; phase = phase } in
      let t' : SessionState = record { rest = r; phase = phase' } in
      elim (is_open phase) as (λ b. is_open phase ≡ b → kept (kept xs n t) n t' ≡ kept xs n t') [
        | true ↦ λ e. kept_kept xs n t t' e
        | false ↦ λ e.
            let k = quiet env p inputs told env' p' phase' (subst (λ (x : Stage). SessionRun rules s env p x inputs told env' p' phase') (ended_is phase e) run) in
            let e' : is_open phase' ≡ false = ap is_open k.ended in
            kept_ended (kept xs n t) n t' e' ∙ without-kept xs n t ∙ sym (kept_ended xs n t' e')
      ] refl

  nothing : (xs : List (ℕ × SessionState)) (used n : ℕ) (r : List ℕ) (p p' : Point) (phase phase' : Stage) → Holds xs n r phase
      → content_of p' ≡ content_of p → p'.halted ≡ p.halted → p'.failures ≡ p.failures → p'.pending ≡ p.pending → phase' ≡ phase
      → hub_at s p' (kept xs n (record { rest = r; phase = phase' })) used ≡ hub_at s p xs used
  nothing xs used n r p p' phase phase' h w e k o f =
      let sessions : kept xs n (record { rest = r; phase = phase' }) ≡ xs = ap (λ (x : Stage). kept xs n (record { rest = r; phase = x })) f ∙ same_state xs n r phase h in
      λ i. record { settings = s; content = w i; halted = e i; failures = k i; pending = o i; sessions = sessions i; used = used }

  one_more : (xs : List (ℕ × SessionState)) (used n : ℕ) (r : List ℕ) (env : Env) (p : Point) (phase : Stage) (input : Input) (inputs : List Input) (told : List Reply) (env' : Env) (p' : Point) (phase' : Stage)
      (a : Answer) (q : Point) (more : List Reply) (serves : StepAt rules (InputStep s env phase input) p a q)
      (run : SessionRun rules s a.env q a.phase inputs more env' p' phase')
      → told ≡ a.replies ++ more → session_of xs n ≡ Some (record { rest = r; phase = phase })
      → HubRun (hub_at s q (kept xs n (record { rest = r; phase = a.phase })) used) a.env (events_of n inputs) more
      (hub_at s p' (kept (kept xs n (record { rest = r; phase = a.phase })) n (record { rest = r; phase = phase' })) used) env'
      → HubRun (hub_at s p xs used) env (events_of n (input ∷ inputs)) told (hub_at s p' (kept xs n (record { rest = r; phase = phase' })) used) env'
  one_more xs used n r env p phase input inputs told env' p' phase' a q more serves run is_told h next =
      let mid = hub_at s q (kept xs n (record { rest = r; phase = a.phase })) used in
      let step = step_here env p phase input a q serves in
      let on = served (InputStep s env phase input) p a q serves in (
        a.replies,
        mid,
        a.env,
        more,
        subst (λ (o : Option SessionState). InputHappens (hub_at s p xs used) env n o input a.replies mid a.env) (sym h) (a, step, refl, refl, q.failures, on.counted, answered_at p r phase a q xs used n on),
        subst (λ (ys : List (ℕ × SessionState)). HubRun mid a.env (events_of n inputs) more (hub_at s p' ys used) env') (finals xs n r a.env q a.phase inputs more env' p' phase' run) next,
        is_told,
      )

  -- after the end nothing more happens
  ended_run : (xs : List (ℕ × SessionState)) (used n : ℕ) (r : List ℕ) (env : Env) (p : Point) (inputs : List Input) (told : List Reply) (env' : Env) (p' : Point) (phase' : Stage)
      → session_of xs n ≡ None → SessionRun rules s env p Ended inputs told env' p' phase'
      → HubRun (hub_at s p xs used) env (events_of n inputs) told (hub_at s p' (kept xs n (record { rest = r; phase = phase' })) used) env'
  ended_run xs used n r env p inputs told env' p' phase' h run =
      let k = quiet env p inputs told env' p' phase' run in
      let new = hub_at s p' (kept xs n (record { rest = r; phase = phase' })) used in
      let same : hub_at s p xs used ≡ new = sym (nothing xs used n r p p' Ended phase' h k.content_is k.halted_is k.failures_is k.pending_is k.ended) in
      subst (λ (x : List Reply). HubRun (hub_at s p xs used) env (events_of n inputs) x new env') (sym k.silent)
      (subst (λ (x : Env). HubRun (hub_at s p xs used) env (events_of n inputs) [] new x) (sym k.words)
      (subst (λ (x : HubState). HubRun (hub_at s p xs used) env (events_of n inputs) [] x env) same (dropped (hub_at s p xs used) env n inputs h)))

  pub composed : (xs : List (ℕ × SessionState)) (used n : ℕ) (r : List ℕ) (env : Env) (p : Point) (phase : Stage) (inputs : List Input) (told : List Reply) (env' : Env) (p' : Point) (phase' : Stage)
      → Holds xs n r phase → SessionRun rules s env p phase inputs told env' p' phase'
      → HubRun (hub_at s p xs used) env (events_of n inputs) told (hub_at s p' (kept xs n (record { rest = r; phase = phase' })) used) env'
  composed xs used n r env p phase [] told env' p' phase' h run =
      let same = alone p p' run.0 in
      (run.1, nothing xs used n r p p' phase phase' h (sym same.0) (sym same.1) (sym same.2) (sym same.3) run.3, run.2)
  composed xs used n r env p phase (input ∷ inputs) told env' p' phase' h run =
      let t' : SessionState = record { rest = r; phase = phase' } in
      elim (is_open phase) as (λ b. is_open phase ≡ b → HubRun (hub_at s p xs used) env (events_of n (input ∷ inputs)) told (hub_at s p' (kept xs n t') used) env') [
        | true ↦ λ e.
            let found = found_open xs n r phase e h in
            one_more xs used n r env p phase input inputs told env' p' phase' run.0 run.1 run.2 run.3 run.4 run.5 found
            (composed (kept xs n (record { rest = r; phase = run.0.phase })) used n r run.0.env run.1 run.0.phase inputs run.2 env' p' phase' (holds_kept xs n r _ run.0.phase found) run.4)
        | false ↦ λ e.
            ended_run xs used n r env p (input ∷ inputs) told env' p' phase' (none_ended xs n r phase e h)
            (subst (λ (x : Stage). SessionRun rules s env p x (input ∷ inputs) told env' p' phase') (ended_is phase e) run)
      ] refl

  -- a commit whose session is gone before the release
  pub leaving : (xs : List (ℕ × SessionState)) (used n : ℕ) (r : List ℕ) (env : Env) (p : Point) (phase : Stage) (input : Input) (a : Answer) (q : Point)
      → session_of xs n ≡ Some (record { rest = r; phase = phase }) → StepAt rules (UnreleasedStep env phase input) p a q
      → HubStep (hub_at s p xs used) env (Leaves n input) a.replies (hub_at s q (kept xs n (record { rest = r; phase = a.phase })) used) a.env
  leaving xs used n r env p phase input a q found serves =
      let on = served (UnreleasedStep env phase input) p a q serves in
      let new = hub_at s q (kept xs n (record { rest = r; phase = a.phase })) used in
      subst (λ (o : Option SessionState). CommitLeaves (hub_at s p xs used) env n o input a.replies new a.env) (sym found)
      (a, leaves_here env p phase input a q serves, refl, refl, q.failures, on.counted, answered_at p r phase a q xs used n on)

  -- the last events of a session that is gone for want of memory
  pub record Ending (mid : HubState) (env : Env) (n : ℕ) (left : Option Input) (new : HubState) : Type 0 where
    pub told : List Reply
    pub after : Env
    pub run : HubRun mid env (ends_of n left) told new after

  pub ends : (zs ws : List (ℕ × SessionState)) (used n : ℕ) (r : List ℕ) (env : Env) (p : Point) (phase : Stage) (left : Option Input) (q : Point)
      → Holds zs n r phase → ws ≡ without zs n → LeavesAt rules env p phase left q → Ending (hub_at s p zs used) env n left (hub_at s q ws used)
  ends zs ws used n r env p phase None q holds gone same = record {
    told = [];
    after = env;
    run = ([], hub_at s q ws used, env, [], (refl, refl, λ i. hub_at s (same i) (gone i) used), (refl, refl, refl), refl);
  }
  ends zs ws used n r env p phase (Some input) q holds gone (a, serves) =
      let found = found_open zs n r phase (leaves_open p.halted env (content_of p) phase input a (leaves_here env p phase input a q serves)) holds in
      let t : SessionState = record { rest = r; phase = a.phase } in
      let mid = hub_at s q (kept zs n t) used in
      let dropped : ws ≡ without (kept zs n t) n = gone ∙ sym (without-kept zs n t) in
      let last : HubRun mid a.env (Drops n ∷ []) [] (hub_at s q ws used) a.env =
      ([], hub_at s q ws used, a.env, [], (refl, refl, ap (λ (ys : List (ℕ × SessionState)). hub_at s q ys used) dropped), (refl, refl, refl), refl) in
      record { told = a.replies ++ []; after = a.env; run = (a.replies, mid, a.env, [], leaving zs used n r env p phase input a q found serves, last, refl) }

-- a run behind another
pub runs_on : (a b c : HubState) (env mid after : Env) (xs ys : List Event) (told more : List Reply)
    → HubRun a env xs told b mid → HubRun b mid ys more c after → HubRun a env (xs ++ ys) (told ++ more) c after
runs_on a b c env mid after [] ys told more (none, same, left) next =
    subst (λ (t : List Reply). HubRun a env ys (t ++ more) c after) (sym none)
    (subst (λ (h : HubState). HubRun h env ys more c after) same (subst (λ (w : Env). HubRun b w ys more c after) left next))
runs_on a b c env mid after (e ∷ es) ys told more (first, next, words, others, step, run, is) later =
    (first, next, words, others ++ more, step, runs_on next b c words mid after es ys others more run later, ap (λ (t : List Reply). t ++ more) is ∙ append_assoc first others more)
