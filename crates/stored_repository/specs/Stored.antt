-- A repository whose changes are saved before they are made.
use Rattle.std.specs.Prelude.{◌≡◌, ◌⊎◌, ℕ, Bool, true, false, [], ◌∷◌, List, Option, Some, None, Result, Ok, Err}
use Rattle.repo_api.specs.{Accepted.{Accepted, changed, IsAccepted}, Accepted.Accepted.Releases, Locking.{HandedTokens, releases, without_released}}
use Rattle.repo_api.specs.{States.{RepoState, TxnState}, declared.fault.ChangeFault.ChangeFault}
use Rattle.repo_api.specs.declared.fault.ChangeFault.TheVariants.{Refused, StoreFailed, Halted, NoMemory}
use Rattle.access.specs.{declared.access.Released.Released, declared.handed.Handed.Handed, Changing.{IsFailure, IsHalt}, Points.{content_of, Point}}
use Rattle.access.specs.declared.access.Released.TheVariants as releases_so
use Rattle.repostore.specs.declared.saves.Saves.{Saves}
use Rattle.repo_api.specs.declared.repository.Repository as Repository
use Rattle.store_files.specs.declared.store.Store as Store
use Rattle.stored_repository.specs.declared.filed.Filed as Filed
use Rattle.stored_repository.specs.{Pending.{accepted_by, pending_in}, Keeping.{HasRepository, StandsFor}, Leaving.LeavesByCall}
use Rattle.stored_repository.specs.{declared.stored.StoredRepository.StoredRepository, declared.change.SavedChange.SavedChange}

-- where the repository contains this, by whether changes have come to a halt, how often the store
-- has failed, and the change that was being saved then
abbrev pub stored_at : RepoState → Bool → ℕ → Option Accepted → Point
stored_at content halted failures pending = record {
  first = content;
  changes = [];
  own = [];
  halted = halted;
  failures = failures;
  pending = pending;
}

abbrev pub point_in : {F S T : Type 0} → (F → RepoState) → (S → ℕ) → (T → TxnState) → F → Saves S
    → Option (SavedChange T) → Point
point_in content failed txn_state repository saves pending =
    stored_at (content repository) saves.is_halted (failed saves.store) (pending_in txn_state pending)

-- what the save of a change leads to: the change is made; or the store failed, and goes on or not; or
-- memory was refused
abbrev pub SavesTo : Accepted → Point → RepoState → Result (Unit {0}) ChangeFault → Point → Type 0
SavesTo e at next (Ok x) q = q ≡ stored_at next at.halted at.failures at.pending
SavesTo e at next (Err (Refused r)) q = ⊥
SavesTo e at next (Err StoreFailed) q = IsFailure at q
SavesTo e at next (Err Halted) q = IsHalt e at q
SavesTo e at next (Err NoMemory) q = q ≡ at

-- what a release leads to: it is made where there is one; or memory is refused for it; or the store
-- fails at it, and goes on or not
abbrev pub ReleasesBy : Option (List ℕ) → HandedTokens → Point → Released → Point → Type 0
ReleasesBy user tokens at releases_so.Settled q =
    ((releases user tokens (content_of at).locks ≡ true)
    × (q ≡ stored_at (without_released (content_of at) user tokens) at.halted at.failures at.pending))
    ⊎ ((releases user tokens (content_of at).locks ≡ false) × (q ≡ at))
ReleasesBy user tokens at releases_so.NoMemory q =
    (releases user tokens (content_of at).locks ≡ true) × (q ≡ at)
ReleasesBy user tokens at releases_so.StoreFailed q =
    (releases user tokens (content_of at).locks ≡ true)
    × (IsFailure at q ⊎ IsHalt (Releases user tokens) at q)

-- how the save of a release is told
abbrev pub released_as : Result (Unit {0}) ChangeFault → Released
released_as (Ok x) = releases_so.Settled
released_as (Err (Refused r)) = releases_so.StoreFailed
released_as (Err StoreFailed) = releases_so.StoreFailed
released_as (Err Halted) = releases_so.StoreFailed
released_as (Err NoMemory) = releases_so.NoMemory

-- the release of what was handed in; where nothing was kept, there is none
abbrev pub releases_of : Option Handed → List Accepted
releases_of None = []
releases_of (Some handed) = Releases handed.user handed.tokens ∷ []

abbrev pub ReleasesKept : Option Handed → Point → Released → Point → Type 0
ReleasesKept None at released q = (released ≡ releases_so.Settled) × (q ≡ at)
ReleasesKept (Some handed) at released q = ReleasesBy handed.user handed.tokens at released q

module _ {F S T : Type 0} {f : Filed.Ghosts F T} {r : Repository.Ghosts F T} {s : Store.Ghosts S} where
  -- where it is
  abbrev pub point_of : StoredRepository F S T f r s → Point
  point_of d = point_in r.content s.failed r.txn_state d.repository d.saves d.pending

  -- this repository is what the change makes of the one that there is
  abbrev pub IsMadeBy : StoredRepository F S T f r s → SavedChange T → F → Type 0
  IsMadeBy d change next =
      r.content next ≡ changed (r.content d.repository) (accepted_by r.txn_state change)

  -- the rules accept the change
  abbrev pub IsAcceptedBy : StoredRepository F S T f r s → SavedChange T → Type 0
  IsAcceptedBy d change = IsAccepted (r.content d.repository) (accepted_by r.txn_state change)

  -- the save of a change leads so from here to there: this is the repository once it is saved
  abbrev pub Settles : SavedChange T → F → StoredRepository F S T f r s
      → Result (Unit {0}) ChangeFault → StoredRepository F S T f r s → Type 0
  Settles change next old result new = SavesTo (accepted_by r.txn_state change) (point_of old)
      (r.content next) result (point_of new)

  -- what was opened of a store that is honest: the store's files stand for it, and where they are
  -- those of a repository, it contains what that one does
  abbrev pub IsOpened : S → StoredRepository F S T f r s → Type 0
  IsOpened store opened = s.is_honest opened.saves.store
      → StandsFor f.stands_for (r.content opened.repository) (s.holds store)
      × ((c : RepoState) → HasRepository r.content f.is_of c (s.holds store)
      → r.content opened.repository ≡ c)

  -- it begins so over the store: changes are made, none is pending, and the failures that are counted
  -- are those of the store before, so none where the store has not failed
  abbrev pub BeginsOver : S → StoredRepository F S T f r s → Type 0
  BeginsOver store opened =
      point_of opened ≡ stored_at (r.content opened.repository) false (s.failed store) None

  -- what a call leaves that asks for these changes
  abbrev pub StopLeaves : List Accepted → StoredRepository F S T f r s → StoredRepository F S T f r s → Type 0
  StopLeaves asked old new =
      LeavesByCall r.content f.is_of s asked (old.repository, old.saves) (new.repository, new.saves)
