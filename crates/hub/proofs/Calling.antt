-- What calls keep.
use Rattle.std.proofs.Common.{◌≡◌, ℕ, ◌+◌, List, [], ◌∷◌, ◌++◌, take, drop, take-append-drop, Some, refl, sym, subst, arith}
use Rattle.repo_api.specs.States.{IsBeginning}
use Rattle.wire_replies.specs.declared.reply.Reply.{Reply}
use Rattle.machine.specs.{Stages.SessionState, declared.env.Env.Env}
use Rattle.hub.specs.{Laws.KeepsConstants, Runs.{ends_of, Event, HubRun, HubStep, with_rest}, Runs.Event.{Connects, Drops}}
use Rattle.hub.specs.{State.{HasTrees, HubState, session_of, updated}, Calls.{CallStep, CallRun, BeginsCalls}}
use Rattle.hub.specs.{declared.hub.HubFault.TheVariants.{NoSession, NoMemory, Halted, Full}, declared.calls.Call.Call}
use Rattle.hub.specs.{declared.calls.Call.TheVariants.{Connect, Feed, Disconnect}, declared.calls.Outcome.Outcome}
use Rattle.hub.specs.declared.calls.Outcome.TheVariants.{Connected, Wrote, Dropped, Failed}
use Rattle.hub.proofs.{Everywhere.HasTrees-with_rest, Staying.{OnlyAccepted, none_accepted, accepted_on, run_accepted, keeps_revisions, same_constants}}
use Rattle.hub.proofs.Staying.{constants_on, run_constants, StaysClosed, none_closed, closed_on, run_closed}
use Rattle.hub.proofs.Failing.{AreCounted, none_counted, counted_on, run_counted, StaysHalted, none_halted, halted_on, run_halted}

abbrev pub with_sessions : HubState → List (ℕ × SessionState) → HubState
with_sessions h sessions = record h { sessions = sessions }

-- what a call does: some events, before which no more has come than a part of a session's stream
record Makes (old new : HubState) : Type 0 where
  sessions : List (ℕ × SessionState)
  trees : HasTrees old → HasTrees (with_sessions old sessions)
  env : Env
  after : Env
  events : List Event
  told : List Reply
  run : HubRun (with_sessions old sessions) env events told new after

pub some_words : Env
some_words = record { moment = 0; token = 0; nonce = 0; dated = omega arith }

makes_nothing : (old new : HubState) → new ≡ old → Makes old new
makes_nothing old new is = record {
  sessions = old.sessions;
  trees = λ trees. trees;
  env = some_words;
  after = some_words;
  events = [];
  told = [];
  run = (refl, is, refl);
}

makes_one : (old new : HubState) (e : Event) (told : List Reply)
    → HubStep old some_words e told new some_words → Makes old new
makes_one old new e told step = record {
  sessions = old.sessions;
  trees = λ trees. trees;
  env = some_words;
  after = some_words;
  events = e ∷ [];
  told = told ++ [];
  run = (told, new, some_words, [], step, (refl, refl, refl), refl);
}

makes_heard : (old : HubState) (n : ℕ) (s : SessionState) (rest : List ℕ)
    (env after : Env) (events : List Event) (told : List Reply) (new : HubState)
    → session_of old.sessions n ≡ Some s → HubRun (with_rest old n s rest) env events told new after → Makes old new
makes_heard old n s rest env after events told new found run = record {
  sessions = updated old.sessions n (record { rest = rest; phase = s.phase });
  trees = HasTrees-with_rest old n s rest found;
  env = env;
  after = after;
  events = events;
  told = told;
  run = run;
}

makes : (old : HubState) (call : Call) (outcome : Outcome) (new : HubState) → CallStep old call outcome new → Makes old new
makes old Connect (Connected n out) new h = makes_one old new (Connects n) h.told (h.step some_words)
makes old Connect (Failed NoSession) new h = absurd h
makes old Connect (Failed NoMemory) new h = makes_nothing old new h.1
makes old Connect (Failed Halted) new h = makes_nothing old new h.1
makes old Connect (Failed Full) new h = makes_nothing old new h.2
makes old Connect (Wrote out) new h = absurd h
makes old Connect Dropped new h = absurd h
makes old (Feed n piece env) (Wrote out) new h =
    let f = h.feeds in makes_heard old n f.session f.rest env f.env_after f.events f.told new f.is_session f.run
makes old (Feed n piece env) (Failed NoSession) new h = makes_nothing old new h.2
makes old (Feed n piece env) (Failed NoMemory) new h =
    let b = h.1 in makes_heard old n b.session b.rest env b.env_after (b.events ++ ends_of n b.left) b.told new b.is_session b.run
makes old (Feed n piece env) (Failed Halted) new h = makes_nothing old new h.1
makes old (Feed n piece env) (Failed Full) new h = absurd h
makes old (Feed n piece env) (Connected m out) new h = absurd h
makes old (Feed n piece env) Dropped new h = absurd h
makes old (Disconnect n) Dropped new h = makes_one old new (Drops n) [] (h some_words)
makes old (Disconnect n) (Failed e) new h = absurd h
makes old (Disconnect n) (Connected m out) new h = absurd h
makes old (Disconnect n) (Wrote out) new h = absurd h

-- ---- a call more

calls_more : (old : HubState) (calls : List Call) (outcomes : List Outcome) (mid : HubState) (call : Call) (outcome : Outcome) (new : HubState)
    → CallRun old calls outcomes mid → CallStep mid call outcome new → CallRun old (calls ++ call ∷ []) (outcomes ++ outcome ∷ []) new
calls_more old [] [] mid call outcome new run step = (new, subst (λ (x : HubState). CallStep x call outcome new) run step, refl)
calls_more old (k ∷ calls) (o ∷ outcomes) mid call outcome new (next, first, run) step = (next, first, calls_more next calls outcomes mid call outcome new run step)
calls_more old [] (o ∷ outcomes) mid call outcome new run step = absurd run
calls_more old (k ∷ calls) [] mid call outcome new run step = absurd run

-- a call more, at the end
pub calls_next : (old : HubState) (calls front : List Call) (outcomes all : List Outcome) (mid : HubState) (call : Call) (outcome : Outcome) (new : HubState)
    → front ≡ calls ++ call ∷ [] → all ≡ outcomes ++ outcome ∷ [] → CallRun old calls outcomes mid → CallStep mid call outcome new → CallRun old front all new
calls_next old calls front outcomes all mid call outcome new is are run step =
    subst (λ (xs : List Call). CallRun old xs all new) (sym is)
    (subst (λ (os : List Outcome). CallRun old (calls ++ call ∷ []) os new) (sym are) (calls_more old calls outcomes mid call outcome new run step))

-- the last call whose outcome there was room for is not the last that was made
pub calls_stop : (old : HubState) (calls : List Call) (i : ℕ) (outcomes : List Outcome) (mid : HubState) (call : Call) (outcome : Outcome) (new : HubState)
    → take (i + 1) calls ≡ take i calls ++ call ∷ [] → CallRun old (take i calls) outcomes mid → CallStep mid call outcome new → BeginsCalls old calls new
calls_stop old calls i outcomes mid call outcome new front run step = record {
  made = take (i + 1) calls;
  others = drop (i + 1) calls;
  are_all = sym (take-append-drop (i + 1) calls);
  outcomes = outcomes ++ outcome ∷ [];
  run = calls_next old (take i calls) (take (i + 1) calls) outcomes (outcomes ++ outcome ∷ []) mid call outcome new front refl run step;
}

-- ---- what runs keep, calls keep

module _ (K : HubState → HubState → Type 0) (none : (h : HubState) → K h h) (both : (a b c : HubState) → K a b → K b c → K a c)
    (apart : (old new : HubState) (sessions : List (ℕ × SessionState)) → K (with_sessions old sessions) new → K old new)
    (runs : (old new : HubState) (env after : Env) (events : List Event) (told : List Reply) → HubRun old env events told new after → K old new) where
  call_keeps : (old : HubState) (call : Call) (outcome : Outcome) (new : HubState) → CallStep old call outcome new → K old new
  call_keeps old call outcome new step =
      let m = makes old call outcome new step in
      apart old new m.sessions (runs (with_sessions old m.sessions) new m.env m.after m.events m.told m.run)

  pub through_calls : (old new : HubState) (calls : List Call) (outcomes : List Outcome) → CallRun old calls outcomes new → K old new
  through_calls old new [] [] is = subst (λ (x : HubState). K old x) (sym is) (none old)
  through_calls old new (call ∷ calls) (outcome ∷ outcomes) (mid, step, run) =
      both old mid new (call_keeps old call outcome mid step) (through_calls mid new calls outcomes run)
  through_calls old new [] (outcome ∷ outcomes) run = absurd run
  through_calls old new (call ∷ calls) [] run = absurd run

pub calls_accepted : (old new : HubState) (calls : List Call) (outcomes : List Outcome) → CallRun old calls outcomes new → OnlyAccepted old.content new.content
calls_accepted =
    through_calls (λ old new. OnlyAccepted old.content new.content) (λ h. none_accepted h.content)
    (λ a b c x y. accepted_on a.content b.content c.content x y) (λ old new sessions k. k) run_accepted

pub calls_keep_revisions : (old new : HubState) (calls : List Call) (outcomes : List Outcome) → CallRun old calls outcomes new → IsBeginning old.content.revisions new.content.revisions
calls_keep_revisions old new calls outcomes run = keeps_revisions old.content new.content (calls_accepted old new calls outcomes run)

pub calls_closed : (old new : HubState) (calls : List Call) (outcomes : List Outcome) → CallRun old calls outcomes new → StaysClosed old new
calls_closed = through_calls StaysClosed none_closed closed_on (λ old new sessions k. k) run_closed

pub calls_constants : (old new : HubState) (calls : List Call) (outcomes : List Outcome) → CallRun old calls outcomes new → KeepsConstants old new
calls_constants = through_calls KeepsConstants same_constants constants_on (λ old new sessions k. record { settings = k.settings; uuid = k.uuid }) run_constants

pub calls_counted : (old new : HubState) (calls : List Call) (outcomes : List Outcome) → CallRun old calls outcomes new → AreCounted old new
calls_counted = through_calls AreCounted none_counted counted_on (λ old new sessions k. k) run_counted

pub calls_halted : (old new : HubState) (calls : List Call) (outcomes : List Outcome) → CallRun old calls outcomes new → StaysHalted old new
calls_halted = through_calls StaysHalted none_halted halted_on (λ old new sessions k. k) run_halted

-- ---- trees

module _ (stay : (old new : HubState) (env after : Env) (events : List Event) (told : List Reply)
    → HasTrees old → HubRun old env events told new after → HasTrees new) where
  pub calls_keep_trees : (old : HubState) (calls : List Call) (outcomes : List Outcome) (new : HubState)
      → HasTrees old → CallRun old calls outcomes new → HasTrees new
  calls_keep_trees old [] [] new trees is = subst HasTrees (sym is) trees
  calls_keep_trees old (call ∷ calls) (outcome ∷ outcomes) new trees (mid, step, run) =
      let m = makes old call outcome mid step in
      calls_keep_trees mid calls outcomes new (stay (with_sessions old m.sessions) mid m.env m.after m.events m.told (m.trees trees) m.run) run
  calls_keep_trees old [] (outcome ∷ outcomes) new trees run = absurd run
  calls_keep_trees old (call ∷ calls) [] new trees run = absurd run
