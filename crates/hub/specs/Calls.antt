-- What the calls of a hub do.
use Rattle.std.specs.Prelude.{◌≡◌, ◌⊎◌, ℕ, ◌+◌, ◌<◌, ◌≤◌, ◌^◌, true, false, List, [], ◌∷◌, ◌++◌, length, None, Result, MatchResult}
use Rattle.wire_replies.specs.{declared.reply.Reply.Reply, Replies.print}
use Rattle.machine.specs.declared.env.Env.{Env}
use Rattle.hub.specs.{declared.hub.TheConstants.MAX_SESSIONS, declared.hub.HubFault.HubFault}
use Rattle.hub.specs.{declared.hub.HubFault.TheVariants.{NoSession, NoMemory, Halted, Full}, declared.calls.Call.Call}
use Rattle.hub.specs.{declared.calls.Call.TheVariants.{Connect, Feed, Disconnect}, declared.calls.Outcome.Outcome}
use Rattle.hub.specs.{declared.calls.Outcome.TheVariants.{Connected, Wrote, Dropped, Failed}, Runs.{Breaks, BreaksOff, Feeds, HubStep}}
use Rattle.hub.specs.{Runs.Event.{Connects, Drops}, State.{HubState, session_of}}

-- there was room for a new session, which is greeted so
pub record ConnectsAs (old : HubState) (n : ℕ) (out : List ℕ) (new : HubState) : Type 0 where
  pub running : old.halted ≡ false
  pub room : length old.sessions < MAX_SESSIONS
  pub told : List Reply
  pub step : (env : Env) → HubStep old env (Connects n) told new env
  pub written : out ≡ print told

-- as many sessions are open as may be, or all numbers are used
abbrev pub IsFull : HubState → Type 0
IsFull h = (MAX_SESSIONS ≤ length h.sessions) ⊎ (2 ^ 64 ≤ h.used + 1)

-- why there is no new session
abbrev pub ConnectFails : HubState → HubFault → HubState → Type 0
ConnectFails old NoSession new = ⊥
ConnectFails old NoMemory new = (old.halted ≡ false) × (new ≡ old)
ConnectFails old Halted new = (old.halted ≡ true) × (new ≡ old)
ConnectFails old Full new = (old.halted ≡ false) × IsFull old × (new ≡ old)

-- a piece was heard, and this is written
pub record FeedsAs (old : HubState) (env : Env) (n : ℕ) (piece out : List ℕ)
    (new : HubState) : Type 0 where
  pub running : old.halted ≡ false
  pub feeds : Feeds old env n piece out new

-- why nothing is written
abbrev pub FeedFails : HubState → Env → ℕ → List ℕ → HubFault → HubState → Type 0
FeedFails old env n piece NoSession new =
    (old.halted ≡ false) × (session_of old.sessions n ≡ None) × (new ≡ old)
FeedFails old env n piece NoMemory new = (old.halted ≡ false) × Breaks old env n piece new
FeedFails old env n piece Halted new = (old.halted ≡ true) × (new ≡ old)
FeedFails old env n piece Full new = ⊥

-- a piece was heard, and what it draws was written
abbrev pub FeedsTo : HubState → Env → ℕ → List ℕ → HubState → (List ℕ → Type 0) → Type 0
FeedsTo old env n piece new writes = (out : List ℕ) × FeedsAs old env n piece out new × writes out

-- why no more was written than a part of what the inputs that were served draw
abbrev pub FeedBreaks : HubState → Env → ℕ → List ℕ → HubFault → HubState → (List ℕ → Type 0)
    → Type 0
FeedBreaks old env n piece NoSession new writes =
    FeedFails old env n piece NoSession new × writes []
FeedBreaks old env n piece NoMemory new writes =
    (old.halted ≡ false) × BreaksOff old env n piece new writes
FeedBreaks old env n piece Halted new writes = FeedFails old env n piece Halted new × writes []
FeedBreaks old env n piece Full new writes = ⊥

-- a piece was heard, and what it causes was written; or, where there is an error, why no more than
-- a part of it was
abbrev pub FedTo : {T : Type 0} → Result T HubFault → HubState → Env → ℕ → List ℕ → HubState
    → (List ℕ → Type 0) → Type 0
FedTo r old env n piece new writes =
    MatchResult r (λ _. FeedsTo old env n piece new writes)
    (λ fault. FeedBreaks old env n piece fault new writes)

abbrev pub CallStep : HubState → Call → Outcome → HubState → Type 0
CallStep old Connect (Connected n out) new = ConnectsAs old n out.items new
CallStep old Connect (Failed e) new = ConnectFails old e new
CallStep old Connect (Wrote out) new = ⊥
CallStep old Connect Dropped new = ⊥
CallStep old (Feed n piece env) (Wrote out) new = FeedsAs old env n piece.items out.items new
CallStep old (Feed n piece env) (Failed e) new = FeedFails old env n piece.items e new
CallStep old (Feed n piece env) (Connected m out) new = ⊥
CallStep old (Feed n piece env) Dropped new = ⊥
CallStep old (Disconnect n) Dropped new = (env : Env) → HubStep old env (Drops n) [] new env
CallStep old (Disconnect n) (Failed e) new = ⊥
CallStep old (Disconnect n) (Connected m out) new = ⊥
CallStep old (Disconnect n) (Wrote out) new = ⊥

-- one call after another, whatever sessions they are of
abbrev pub CallRun : HubState → List Call → List Outcome → HubState → Type 0
CallRun old [] [] new = new ≡ old
CallRun old (call ∷ calls) (outcome ∷ outcomes) new =
    (mid : HubState) × CallStep old call outcome mid × CallRun mid calls outcomes new
CallRun old [] (outcome ∷ outcomes) new = ⊥
CallRun old (call ∷ calls) [] new = ⊥

-- some of the calls were made, from the first on
pub record BeginsCalls (old : HubState) (calls : List Call) (new : HubState) : Type 0 where
  pub made : List Call
  pub others : List Call
  pub are_all : calls ≡ made ++ others
  pub outcomes : List Outcome
  pub run : CallRun old made outcomes new
