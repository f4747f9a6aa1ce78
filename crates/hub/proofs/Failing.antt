-- The store's failures, and what comes to a halt.
use Rattle.std.proofs.Common.{◌≡◌, ◌⊎◌, inl, inr, ℕ, ◌+◌, ◌<◌, ◌≤◌, ◌||◌, List, Option, Some, None, Bool, true, false, refl, sym, ap, subst, ◌∙◌, arith}
use Rattle.wire_replies.specs.declared.reply.Reply.{Reply}
use Rattle.access.specs.Points.{HasRisen, last_count}
use Rattle.machine.specs.{Answers.{Answer, Counts, is_halt, Verdict}, Answers.Verdict.{NotWritten, Unknown, Written}, Hearing.Input, Stages.SessionState}
use Rattle.machine.specs.declared.env.Env.{Env}
use Rattle.hub.specs.{State.{HubState, session_of}, Runs.{Event, InputHappens, CommitLeaves, HubStep, HubRun, answered}}
use Rattle.hub.specs.Runs.Event.{Connects, HandsIn, Hears, Leaves, Drops}
use Rattle.hub.proofs.{Effects.or_false, Running.through_run, Staying.event_halted}

pub or_true : (b : Bool) → (b || true) ≡ true
or_true true = refl
or_true false = refl

-- what the count has reached it does not fall below
abbrev pub NeverFalls : HubState → HubState → Type 0
NeverFalls old new = (m : ℕ) → m ≤ last_count → m ≤ old.failures → m ≤ new.failures

-- changes come to a halt where the count rises
abbrev pub HaltsByCount : HubState → HubState → Type 0
HaltsByCount old new = (m : ℕ) → m < last_count → m ≤ old.failures → (new.halted ≡ old.halted) ⊎ (m < new.failures)

abbrev pub AreCounted : HubState → HubState → Type 0
AreCounted old new = NeverFalls old new × HaltsByCount old new

risen_keeps : (m before after : ℕ) → m ≤ last_count → m ≤ before → HasRisen before after → m ≤ after
risen_keeps m before after l le (inl lt) = omega (arith, lt)
risen_keeps m before after l le (inr e) = subst (λ (x : ℕ). m ≤ x) (sym e) l

risen_above : (m before after : ℕ) → m < last_count → m ≤ before → HasRisen before after → m < after
risen_above m before after l le (inl lt) = omega (arith, lt)
risen_above m before after l le (inr e) = subst (λ (x : ℕ). m < x) (sym e) l

stored : (v : Verdict) (old new : HubState) → Counts v old.failures new.failures → new.halted ≡ (old.halted || is_halt v) → AreCounted old new
stored Written old new counts halted =
    (λ m l le. subst (λ (x : ℕ). m ≤ x) (sym counts) le, λ m l le. inl (halted ∙ or_false old.halted))
stored NotWritten old new counts halted =
    (λ m l le. risen_keeps m old.failures new.failures l le counts, λ m l le. inl (halted ∙ or_false old.halted))
stored (Unknown e) old new counts halted =
    (λ m l le. risen_keeps m old.failures new.failures l le counts, λ m l le. inr (risen_above m old.failures new.failures l le counts))

same_counted : (old new : HubState) → new.failures ≡ old.failures → new.halted ≡ old.halted → AreCounted old new
same_counted old new failures halted = (λ m l le. subst (λ (x : ℕ). m ≤ x) (sym failures) le, λ m l le. inl halted)

answer_counted : (old new : HubState) (n : ℕ) (s : SessionState) (a : Answer) (failures : ℕ) → Counts a.effect.store old.failures failures → new ≡ answered old n s a failures → AreCounted old new
answer_counted old new n s a failures counts is =
    stored a.effect.store old new (subst (λ (x : ℕ). Counts a.effect.store old.failures x) (sym (ap (λ (x : HubState). x.failures) is)) counts) (ap (λ (x : HubState). x.halted) is)

input_counted : (old : HubState) (env : Env) (n : ℕ) (o : Option SessionState) (input : Input) (told : List Reply) (new : HubState) (after : Env)
    → InputHappens old env n o input told new after → AreCounted old new
input_counted old env n None input told new after h = same_counted old new (ap (λ (x : HubState). x.failures) h.1) (ap (λ (x : HubState). x.halted) h.1)
input_counted old env n (Some s) input told new after (a, step, is_told, left, failures, counts, is) = answer_counted old new n s a failures counts is

leaving_counted : (old : HubState) (env : Env) (n : ℕ) (o : Option SessionState) (input : Input) (told : List Reply) (new : HubState) (after : Env)
    → CommitLeaves old env n o input told new after → AreCounted old new
leaving_counted old env n None input told new after h = absurd h
leaving_counted old env n (Some s) input told new after (a, step, is_told, left, failures, counts, is) = answer_counted old new n s a failures counts is

pub event_counted : (old new : HubState) (env after : Env) (e : Event) (told : List Reply) → HubStep old env e told new after → AreCounted old new
event_counted old new env after (Connects n) told h = same_counted old new (ap (λ (x : HubState). x.failures) h.3) (ap (λ (x : HubState). x.halted) h.3)
event_counted old new env after (HandsIn words) told h = same_counted old new (ap (λ (x : HubState). x.failures) h.1) (ap (λ (x : HubState). x.halted) h.1)
event_counted old new env after (Hears n input) told h = input_counted old env n (session_of old.sessions n) input told new after h
event_counted old new env after (Leaves n input) told h = leaving_counted old env n (session_of old.sessions n) input told new after h
event_counted old new env after (Drops n) told h = same_counted old new (ap (λ (x : HubState). x.failures) h.2) (ap (λ (x : HubState). x.halted) h.2)

pub none_counted : (h : HubState) → AreCounted h h
none_counted h = same_counted h h refl refl

halts_on : (a b c : HubState) (m : ℕ) → m < last_count → m ≤ b.failures → (b.halted ≡ a.halted) ⊎ (m < b.failures) → AreCounted b c
    → (c.halted ≡ a.halted) ⊎ (m < c.failures)
halts_on a b c m l le (inr lt) k =
    let more : m + 1 ≤ c.failures = k.0 (m + 1) (omega arith) (omega arith) in
    inr (omega arith)
halts_on a b c m l le (inl e) k = by (k.1 m l le)
  where
    by : (c.halted ≡ b.halted) ⊎ (m < c.failures) → (c.halted ≡ a.halted) ⊎ (m < c.failures)
    by (inl f) = inl (f ∙ e)
    by (inr lt) = inr lt

pub counted_on : (a b c : HubState) → AreCounted a b → AreCounted b c → AreCounted a c
counted_on a b c x y =
    (λ m l le. y.0 m l (x.0 m l le), λ m l le. halts_on a b c m l (x.0 m (omega arith) le) (x.1 m l le) y)

pub run_counted : (old new : HubState) (env after : Env) (events : List Event) (told : List Reply) → HubRun old env events told new after → AreCounted old new
run_counted = through_run AreCounted none_counted counted_on event_counted

-- by what is so counted the count never falls, and it has risen where changes have come to a halt
pub never_falls : (old new : HubState) → AreCounted old new → old.failures ≤ last_count → old.failures ≤ new.failures
never_falls old new k l = k.0 old.failures l (omega arith)

pub not_halted : (old new : HubState) → AreCounted old new → old.failures < last_count → new.failures ≡ old.failures → new.halted ≡ old.halted
not_halted old new k l same = by (k.1 old.failures l (omega arith))
  where
    by : (new.halted ≡ old.halted) ⊎ (old.failures < new.failures) → new.halted ≡ old.halted
    by (inl e) = e
    by (inr lt) = absurd (omega (arith, same))

-- ---- after a halt

abbrev pub StaysHalted : HubState → HubState → Type 0
StaysHalted old new = old.halted ≡ true → (new.halted ≡ true) × (new.content ≡ old.content) × (new.pending ≡ old.pending)

pub none_halted : (h : HubState) → StaysHalted h h
none_halted h halted = (halted, refl, refl)

pub halted_on : (a b c : HubState) → StaysHalted a b → StaysHalted b c → StaysHalted a c
halted_on a b c x y halted =
    let first = x halted in
    let second = y first.0 in
    (second.0, second.1 ∙ first.1, second.2 ∙ first.2)

pub run_halted : (old new : HubState) (env after : Env) (events : List Event) (told : List Reply) → HubRun old env events told new after → StaysHalted old new
run_halted = through_run StaysHalted none_halted halted_on event_halted
