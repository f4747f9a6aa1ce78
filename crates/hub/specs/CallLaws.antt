-- Words of the laws of calls of a hub.
use Rattle.hub.specs.{Calls.{CallStep, CallRun}, declared.calls.Call.TheVariants.{Connect, Feed, Disconnect}, declared.calls.Call.Call}
use Rattle.hub.specs.{declared.calls.Outcome.TheVariants.{Connected, Wrote, Dropped, Failed}, declared.calls.Outcome.Outcome}
use Rattle.hub.specs.{declared.hub.HubFault.TheVariants.{NoSession, NoMemory, Halted, Full}, Done.HaveDone, Laws.MakesNewTokens, Runs.{ends_of, with_rest}}
use Rattle.hub.specs.State.{HubState}
use Rattle.repo_api.specs.Accepted.{Accepted}
use Rattle.std.specs.Prelude.{◌≡◌, List, [], ◌∷◌, ◌++◌}

-- at each event of a call that uses up a word, its token is one that none of the locks has which
-- stand then
abbrev pub CallMakesNewTokens : (old : HubState) (call : Call) (outcome : Outcome) (new : HubState)
    → CallStep old call outcome new → Type 0
CallMakesNewTokens old Connect outcome new step = Unit {0}
CallMakesNewTokens old (Feed n piece env) (Wrote out) new step =
    let f = step.feeds in
    MakesNewTokens (with_rest old n f.session f.rest) env f.events f.told new f.env_after f.run
CallMakesNewTokens old (Feed n piece env) (Failed NoMemory) new step =
    let b = step.1 in
    MakesNewTokens (with_rest old n b.session b.rest) env (b.events ++ ends_of n b.left) b.told new
    b.env_after b.run
CallMakesNewTokens old (Feed n piece env) (Failed NoSession) new step = Unit {0}
CallMakesNewTokens old (Feed n piece env) (Failed Halted) new step = Unit {0}
CallMakesNewTokens old (Feed n piece env) (Failed Full) new step = Unit {0}
CallMakesNewTokens old (Feed n piece env) (Connected m out) new step = Unit {0}
CallMakesNewTokens old (Feed n piece env) Dropped new step = Unit {0}
CallMakesNewTokens old (Disconnect n) outcome new step = Unit {0}

-- and so at each of the calls
abbrev pub CallsMakeNewTokens : (old : HubState) (calls : List Call) (outcomes : List Outcome)
    (new : HubState) → CallRun old calls outcomes new → Type 0
CallsMakeNewTokens old [] outcomes new run = Unit {0}
CallsMakeNewTokens old (call ∷ calls) (outcome ∷ outcomes) new (mid, step, run) =
    CallMakesNewTokens old call outcome mid step × CallsMakeNewTokens mid calls outcomes new run
CallsMakeNewTokens old (call ∷ calls) [] new run = Unit {0}

-- the events of a call have done these changes, one after another
abbrev pub CallHasDone : (old : HubState) (call : Call) (outcome : Outcome) (new : HubState)
    → CallStep old call outcome new → List Accepted → Type 0
CallHasDone old Connect outcome new step changes = changes ≡ []
CallHasDone old (Feed n piece env) (Wrote out) new step changes =
    let f = step.feeds in
    HaveDone (with_rest old n f.session f.rest) env f.events f.told new f.env_after f.run changes
CallHasDone old (Feed n piece env) (Failed NoMemory) new step changes =
    let b = step.1 in
    HaveDone (with_rest old n b.session b.rest) env (b.events ++ ends_of n b.left) b.told new
    b.env_after b.run changes
CallHasDone old (Feed n piece env) (Failed NoSession) new step changes = changes ≡ []
CallHasDone old (Feed n piece env) (Failed Halted) new step changes = changes ≡ []
CallHasDone old (Feed n piece env) (Failed Full) new step changes = changes ≡ []
CallHasDone old (Feed n piece env) (Connected m out) new step changes = changes ≡ []
CallHasDone old (Feed n piece env) Dropped new step changes = changes ≡ []
CallHasDone old (Disconnect n) outcome new step changes = changes ≡ []

-- so have those of each of the calls
abbrev pub CallsHaveDone : (old : HubState) (calls : List Call) (outcomes : List Outcome)
    (new : HubState) → CallRun old calls outcomes new → List Accepted → Type 0
CallsHaveDone old [] outcomes new run changes = changes ≡ []
CallsHaveDone old (call ∷ calls) (outcome ∷ outcomes) new (mid, step, run) changes =
    (front : List Accepted) × CallHasDone old call outcome mid step front
    × (back : List Accepted) × CallsHaveDone mid calls outcomes new run back
    × (changes ≡ front ++ back)
CallsHaveDone old (call ∷ calls) [] new run changes = changes ≡ []
