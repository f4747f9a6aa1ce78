-- What a right change leads to once it is saved and published, or not.
use Rattle.std.specs.Prelude.{◌≡◌, Result, Ok, Err}
use Rattle.repo_api.specs.{Accepted.Accepted, declared.fault.ChangeFault.ChangeFault}
use Rattle.repo_api.specs.declared.fault.ChangeFault.TheVariants as faults
use Rattle.access.specs.{Changing.{IsFailure, IsHalt}, Points.Point}
use Rattle.published.specs.Moments.{added}

-- it is made; or the store failed, and goes on or not; or memory was refused
abbrev pub SettlesTo : Accepted → Point → Result (Unit {0}) ChangeFault → Point → Type 0
SettlesTo e p (Ok _) q = q ≡ added p e
SettlesTo e p (Err (faults.Refused r)) q = ⊥
SettlesTo e p (Err faults.StoreFailed) q = IsFailure p q
SettlesTo e p (Err faults.Halted) q = IsHalt e p q
SettlesTo e p (Err faults.NoMemory) q = q ≡ p
