-- The change that is being saved, as what was asked.
use Rattle.std.specs.Prelude.{Option, Some, None}
use Rattle.repo_api.specs.{Accepted.Accepted, Accepted.Accepted.{ChangesProperty, Commits, Locks, Releases, Unlocks}, States.TxnState}
use Rattle.stored_repository.specs.{declared.change.SavedChange.SavedChange, declared.change.SavedChange.TheVariants.{Commit, Lock, Unlock, Release, Property}}

-- the change that is being saved
abbrev pub accepted_by : {T : Type 0} → (T → TxnState) → SavedChange T → Accepted
accepted_by txn_state (Commit ask txn) = Commits ask (txn_state txn)
accepted_by txn_state (Lock ask) = Locks ask
accepted_by txn_state (Unlock ask) = Unlocks ask
accepted_by txn_state (Release handed) = Releases handed.user handed.tokens
accepted_by txn_state (Property ask) = ChangesProperty ask

abbrev pub pending_in : {T : Type 0} → (T → TxnState) → Option (SavedChange T) → Option Accepted
pending_in txn_state None = None
pending_in txn_state (Some change) = Some (accepted_by txn_state change)
