-- A call of a seat, as the keeper makes it, and as it is made under the lock.
use Rattle.std.specs.Prelude.{◌≡◌, ◌⊎◌, true, false, List, Result, Err}
use mathlib.Core.List.{IsPrefix}
use Rattle.repo_api.specs.{Accepted.Accepted, States.RepoState, declared.fault.ChangeFault.ChangeFault}
use Rattle.repo_api.specs.declared.fault.ChangeFault.TheVariants as faults
use Rattle.access.specs.{Changing.Happens, Points.Point}
use Rattle.published.specs.{Events.{Known, count_in, knowing, own_in, point_of}, Files.Kept, Moments.{GoesOn, shared_rules}}
use Rattle.keepers.specs.Standing.{HappensAt, IsSteady, Standing, StopLeaves, now_of}

-- to the seat the change happens between those of others, and its number stays; and unless it knew of a halt
-- or stays as it was, it knows of all changes in its events that are its own
pub record Answers {R : Type 0} (change : Point → Result R ChangeFault → Point → Type 0)
    (seat : Known) (result : Result R ChangeFault) (seat' : Known) : Type 0 where
  pub happens : Happens shared_rules change (point_of seat) result (point_of seat')
  pub number : seat'.number ≡ seat.number
  pub own : (point_of seat).halted ≡ false → (seat' ≡ seat) ⊎ (seat'.own ≡ own_in seat.number seat'.list)

module _ {S R : Type 0} (seat : Known) (k : Standing S) (result : Result R ChangeFault) (seat' : Known)
    (k' : Standing S) where
  -- memory was refused, and nothing was done
  pub record IsGivenUp : Type 0 where
    pub why : result ≡ Err faults.NoMemory
    pub seat_stays : seat' ≡ seat
    pub keeper_stays : k' ≡ k

  -- it is made where the keeper stands: its events go on from those of the seat, and none of these is the
  -- seat's own, whether it made a change or failed; the change happens there, and the seat knows what
  -- comes of it
  pub record IsMadeThere (change : Point → Result R ChangeFault → Point → Type 0) : Type 0 where
    pub later : GoesOn (point_of seat) (now_of seat.number k)
    pub begins : IsPrefix seat.list k.list
    pub alone : count_in seat.number k.list ≡ seat.count
    pub happens : HappensAt change seat.number k result k'
    pub shown : seat' ≡ knowing seat.number k'.list

-- a call of a seat: where the seat knows of a halt, it is turned away and nothing changes. Else it is made
-- where the keeper stands, or given up before anything is done. The keeper is steady again
pub record Calls {S : Type 0} (kept : S → Kept) (stands : S → List RepoState → Type 0) {R : Type 0}
    (change : Point → Result R ChangeFault → Point → Type 0) (seat : Known) (k : Standing S)
    (result : Result R ChangeFault) (seat' : Known) (k' : Standing S) : Type 0 where
  pub turned_away : (point_of seat).halted ≡ true → (result ≡ Err faults.Halted) × (seat' ≡ seat) × (k' ≡ k)
  pub made : (point_of seat).halted ≡ false
      → IsGivenUp seat k result seat' k' ⊎ IsMadeThere seat k result seat' k' change
  pub answers : Answers change seat result seat'
  pub steady : IsSteady kept stands k'

-- a call under the lock: the keeper stood somewhere, and was steady; the call was made there, and a stop at any
-- moment of it leaves what it leaves of a call that asks for these changes
pub record CallsUnderLock {S : Type 0} (kept : S → Kept) (stands : S → List RepoState → Type 0)
    (leaves : S → S → List RepoState → Type 0) {R : Type 0}
    (change : Point → Result R ChangeFault → Point → Type 0) (asked : List Accepted) (seat : Known)
    (result : Result R ChangeFault) (seat' : Known) : Type 0 where
  pub before : Standing S
  pub behind : Standing S
  pub was_steady : IsSteady kept stands before
  pub calls : Calls kept stands change seat before result seat' behind
  pub stop : StopLeaves kept leaves asked before behind
