-- What has happened to a repository: its opening, and since then the changes and the failures of the store.
use Rattle.std.specs.{Prelude.{◌≡◌, ◌≤◌, ◌<◌, ◌+◌, ◌==◌, ℕ, Bool, true, false, List, [], ◌∷◌, ◌++◌, length, if◌then◌else◌, Option, Some, None}, FinMap.empty}
use mathlib.Core.List.{IsPrefix}
use Rattle.repo_api.specs.{Accepted.{Accepted, changed_all}, Accepted.Accepted.{ChangesProperty, Commits, Locks, Releases, Unlocks}, Soundness.AreSound}
use Rattle.repo_api.specs.States.{RepoState, TxnState}
use Rattle.access.specs.Points.{HasRisen, last_count, Point}
use Rattle.published.specs.{Changes.IsRight, declared.event.AskedChange.AskedChange}
use Rattle.published.specs.declared.event.AskedChange.TheVariants.{Commit, Lock, Unlock, Release, Property}

-- the repository was opened, contained this, and its store had failed so often; or the author of this
-- number made a change; or the store failed as this change of the author's was being saved: changes have
-- come to a halt by that or not, and so often has the store failed then
pub data Event : Type 0 where
  Opened : RepoState → ℕ → Event
  Makes : ℕ → Accepted → Event
  Fails : ℕ → Accepted → Bool → ℕ → Event

-- ---- the repository

abbrev nowhere : RepoState
nowhere = record { uuid = 0; revisions = []; properties = []; locks = empty }

-- what the repository contained when it was opened
abbrev pub first_in : List Event → RepoState
first_in [] = nowhere
first_in (Opened c n ∷ es) = c
first_in (Makes by e ∷ es) = nowhere
first_in (Fails by e halts n ∷ es) = nowhere

-- the changes, in order
abbrev pub changes_in : List Event → List Accepted
changes_in [] = []
changes_in (Opened c n ∷ es) = changes_in es
changes_in (Makes by e ∷ es) = e ∷ changes_in es
changes_in (Fails by e halts n ∷ es) = changes_in es

-- what the repository contains after the events
abbrev pub state_of : List Event → RepoState
state_of log = changed_all (first_in log) (changes_in log)

-- ---- its authors

-- the changes that the author of this number made, in order
abbrev pub own_in : ℕ → List Event → List Accepted
own_in n [] = []
own_in n (Opened c m ∷ es) = own_in n es
own_in n (Makes by e ∷ es) = if by == n then e ∷ own_in n es else own_in n es
own_in n (Fails by e halts m ∷ es) = own_in n es

-- how many changes it made, and how many of its were not saved
abbrev pub count_in : ℕ → List Event → ℕ
count_in n [] = 0
count_in n (Opened c m ∷ es) = count_in n es
count_in n (Makes by e ∷ es) = (if by == n then 1 else 0) + count_in n es
count_in n (Fails by e halts m ∷ es) = (if by == n then 1 else 0) + count_in n es

-- ---- its store

-- whether changes have come to a halt, how often the store has failed, and the change that was being
-- saved at the halt
pub record Told : Type 0 where
  pub halted : Bool
  pub failures : ℕ
  pub pending : Option Accepted

abbrev pub told : Bool → ℕ → Option Accepted → Told
told halted failures pending = record { halted = halted; failures = failures; pending = pending }

abbrev pub told_by : Told → Event → Told
told_by t (Opened c n) = told false n None
told_by t (Makes by e) = t
told_by t (Fails by e false n) = told t.halted n t.pending
told_by t (Fails by e true n) = told true n (Some e)

abbrev pub told_from : Told → List Event → Told
told_from t [] = t
told_from t (e ∷ es) = told_from (told_by t e) es

-- what the events tell of the store
abbrev pub told_in : List Event → Told
told_in log = told_from (told false 0 None) log

-- ---- moments

-- the moment after the events for one that knows these changes for its own
abbrev pub moment_of : List Event → List Accepted → Point
moment_of log own =
    record {
      first = first_in log;
      changes = changes_in log;
      own = own;
      halted = (told_in log).halted;
      failures = (told_in log).failures;
      pending = (told_in log).pending;
    }

-- what an author knows: its number, a beginning of the history, which changes in it are its own, and how
-- many events
pub record Known : Type 0 where
  pub number : ℕ
  pub list : List Event
  pub own : List Accepted
  pub count : ℕ

-- the author of this number knows these events, and all of them that are its own
abbrev pub knowing : ℕ → List Event → Known
knowing n list = record { number = n; list = list; own = own_in n list; count = count_in n list }

-- the moment at which it is
abbrev pub point_of : Known → Point
point_of k = moment_of k.list k.own

-- ---- what may follow what

-- The event may come next: first the opening of a sound repository. Then the changes of authors, as long as
-- none has come to a halt: right ones, which are made, or at which the store fails, and then its count has risen
abbrev pub MayFollow : List Event → Event → Type 0
MayFollow done (Opened c n) = (done ≡ []) × AreSound c.revisions × (n ≤ last_count)
MayFollow done (Makes by e) =
    (0 < length done) × ((told_in done).halted ≡ false) × IsRight (state_of done) e
MayFollow done (Fails by e halts n) =
    (0 < length done) × ((told_in done).halted ≡ false) × IsRight (state_of done) e
    × HasRisen (told_in done).failures n × (n ≤ last_count)

abbrev pub MayAllFollow : List Event → List Event → Type 0
MayAllFollow done [] = Unit {0}
MayAllFollow done (e ∷ es) = MayFollow done e × MayAllFollow (done ++ e ∷ []) es

-- each event came in a state in which it may come
abbrev pub IsHistory : List Event → Type 0
IsHistory log = MayAllFollow [] log

-- ys begins with xs, and goes on
abbrev pub IsLonger : {A : Type 0} → List A → List A → Type 0
IsLonger xs ys = IsPrefix xs ys × (length xs < length ys)

-- the change that was asked for
abbrev pub accepted_by : {T : Type 0} → (T → TxnState) → AskedChange T → Accepted
accepted_by txn_state (Commit ask txn) = Commits ask.value (txn_state txn.value)
accepted_by txn_state (Lock ask) = Locks ask.value
accepted_by txn_state (Unlock ask) = Unlocks ask.value
accepted_by txn_state (Release handed) = Releases handed.value.user handed.value.tokens
accepted_by txn_state (Property ask) = ChangesProperty ask.value
