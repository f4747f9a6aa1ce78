-- How a keeper stands between calls, as contracts see it.
use Rattle.std.specs.{Prelude.{◌≡◌, ◌<◌, ◌^◌, ℕ, List, [], ◌∷◌, true, false, length, slice_get, Some, Result, Ok, Err, Vec}, declared.alloc.Global.Global}
use mathlib.Core.List.{IsPrefix}
use Rattle.access.specs.{Calls.{AreCalls, CallLeaves}, Points.Point}
use Rattle.repo_api.specs.{Accepted.Accepted, States.RepoState, declared.fault.ChangeFault.ChangeFault}
use Rattle.repo_api.specs.declared.fault.ChangeFault.TheVariants as faults
use Rattle.published.specs.{Edition.Edition, Events.{Event, IsHistory, Known, count_in, knowing, point_of, state_of}, Events.Event.Opened, Files.{Agrees, Kept}}
use Rattle.published.specs.Moments.{GoesOn}
use Rattle.archives.specs.Archives.{FilesStand}

-- the events, the repository, what is published, and the archive
pub record Standing (S : Type 0) : Type 0 where
  pub list : List Event
  pub content : RepoState
  pub shown : Edition
  pub archive : S

abbrev pub standing : {S : Type 0} → List Event → RepoState → Edition → S → Standing S
standing list content shown archive =
    record { list = list; content = content; shown = shown; archive = archive }

-- the moment at which it stands, for the author of this number
abbrev pub now_of : {S : Type 0} → ℕ → Standing S → Point
now_of n k = point_of (knowing n k.list)

-- this happens at the moment at which the keeper stands, and leads to the one at which it stands then
abbrev pub HappensAt : {S R : Type 0} → (Point → R → Point → Type 0) → ℕ → Standing S → R → Standing S
    → Type 0
HappensAt change n k result k' = change (now_of n k) result (now_of n k')

-- a seat is shown where the keeper stands: its events begin the keeper's, those between are of others,
-- and it knows all
pub record Meets {S : Type 0} (seat : Known) (k : Standing S) (seat' : Known) : Type 0 where
  pub later : GoesOn (point_of seat) (now_of seat.number k)
  pub begins : IsPrefix seat.list k.list
  pub alone : count_in seat.number k.list ≡ seat.count
  pub told : seat' ≡ knowing seat.number k.list

-- seats that have seen a repository's opening: each has a number of its own, and has made nothing
abbrev pub HaveSeenOpening : RepoState → ℕ → List Known → Type 0
HaveSeenOpening c failures seats =
    (n : ℕ) (seat : Known) → slice_get seats n ≡ Some seat → seat ≡ knowing n (Opened c failures ∷ [])

module _ {S : Type 0} (kept : S → Kept) where
  -- a change can begin: changes are saved, and there is room for one event more
  abbrev pub CanBegin : Standing S → Type 0
  CanBegin k = ((kept k.archive).halted ≡ false) × (length k.list < 2 ^ 60)

  -- why a change was not begun
  abbrev pub NotBegun : ChangeFault → Standing S → Type 0
  NotBegun (faults.Refused r) k = ⊥
  NotBegun faults.StoreFailed k = ⊥
  NotBegun faults.Halted k = (kept k.archive).halted ≡ true
  NotBegun faults.NoMemory k = Unit {0}

  -- whether a change can begin, or why it cannot
  abbrev pub Begins : Result (Unit {0}) ChangeFault → Standing S → Type 0
  Begins (Ok _) k = CanBegin k
  Begins (Err fault) k = NotBegun fault k

  module _ (leaves : S → S → List RepoState → Type 0) where
    -- a call that asks for these changes saves the first of them that the rules accept, and a stop at any moment of it
    -- leaves the files of the repository before them, between them or behind them; where changes have come to a halt,
    -- nothing is done
    abbrev pub StopLeaves : List Accepted → Standing S → Standing S → Type 0
    StopLeaves = CallLeaves (λ k. state_of k.list) (λ k. k.archive) (λ a. (kept a).halted) leaves

    -- one call after another, each by the changes for which it asks, and where the keeper stands behind it
    abbrev pub MakesCalls : Standing S → List (List Accepted × Standing S) → Type 0
    MakesCalls = AreCalls (λ k. state_of k.list) (λ k. k.archive) (λ a. (kept a).halted) leaves

module _ {S : Type 0} (kept : S → Kept) (stands : S → List RepoState → Type 0) where
  -- its repository is what is published, both are what the events make, and what keeps the files is as the
  -- events say, as it is read and as a stop leaves it
  pub record IsSteady (k : Standing S) : Type 0 where
    pub begun : 0 < length k.list
    pub history : IsHistory k.list
    pub content : k.content ≡ state_of k.list
    pub shown : k.shown.list ≡ k.list
    pub shown_content : k.shown.content ≡ k.content
    pub agrees : Agrees (kept k.archive) k.list
    pub files : FilesStand stands k.archive k.list

  -- a keeper was opened over this archive, with its seats
  abbrev pub IsOpened : S → RepoState → Standing S × Vec Known Global → Type 0
  IsOpened archive c opened =
      (opened.0.list ≡ Opened c (kept archive).failures ∷ []) × (opened.0.archive ≡ archive)
      × IsSteady opened.0 × HaveSeenOpening c (kept archive).failures opened.1.items
