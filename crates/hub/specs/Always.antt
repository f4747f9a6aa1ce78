-- What holds of every run of a hub: whatever happens, and whatever calls come.
use Rattle.std.specs.Prelude.{List}
use Rattle.repo_api.specs.Accepted.{Accepted}
use Rattle.wire_replies.specs.declared.reply.Reply.{Reply}
use Rattle.machine.specs.declared.env.Env.{Env}
use Rattle.hub.specs.{Done.{HasDone, HaveDone}, Runs.{Event, HubRun}, State.HubState, Calls.CallRun, CallLaws.CallsHaveDone, declared.calls.Call.Call}
use Rattle.hub.specs.declared.calls.Outcome.{Outcome}

-- this holds of each run of events
abbrev pub OfRuns : ((old : HubState) (env : Env) (events : List Event) (told : List Reply)
    (new : HubState) (after : Env) → HubRun old env events told new after → Type 0) → Type 0
OfRuns P =
    (old new : HubState) (env after : Env) (events : List Event) (told : List Reply)
    (run : HubRun old env events told new after) → P old env events told new after run

-- this holds of each run of calls
abbrev pub OfCalls : ((old : HubState) (calls : List Call) (outcomes : List Outcome) (new : HubState)
    → CallRun old calls outcomes new → Type 0) → Type 0
OfCalls P =
    (old new : HubState) (calls : List Call) (outcomes : List Outcome)
    (run : CallRun old calls outcomes new) → P old calls outcomes new run

-- this holds of the hub before and after, whatever happens, and whatever calls come
abbrev pub Always : (HubState → HubState → Type 0) → Type 0
Always P = OfRuns (λ old _ _ _ new _ _. P old new) × OfCalls (λ old _ _ new _. P old new)

-- this holds of the changes that were asked for meanwhile: of those of an event, of events, of calls
abbrev pub AlwaysBy : (HubState → List Accepted → HubState → Type 0) → Type 0
AlwaysBy P =
    ((old new : HubState) (env after : Env) (event : Event) (changes : List Accepted) (told : List Reply)
    → HasDone old env event changes told new after → P old changes new)
    × OfRuns (λ old env events told new after run. (changes : List Accepted)
    → HaveDone old env events told new after run changes → P old changes new)
    × OfCalls (λ old calls outcomes new run. (changes : List Accepted)
    → CallsHaveDone old calls outcomes new run changes → P old changes new)
