-- A commit that was not made, with the path at which it is refused.
use Rattle.std.specs.Prelude.{◌≡◌, ◌⊎◌, Option, Result, Ok, Err}
use Rattle.svnpath.specs.Paths.{PathValue}
use Rattle.repo_api.specs.{declared.fault.ChangeFault.ChangeFault, declared.fault.ChangeFault.TheVariants.{Refused, StoreFailed, Halted, NoMemory}}
use Rattle.access.specs.declared.not_committed.NotCommitted.{NotCommitted}

-- what came of a commit, as of any change
abbrev pub without_path : {T : Type 0} → Result T NotCommitted → Result T ChangeFault
without_path (Ok made) = Ok made
without_path (Err refused) = Err refused.fault

-- what is known where it is a refusal
abbrev pub IfRefusal : ChangeFault → Type 0 → Type 0
IfRefusal (Refused r) P = P
IfRefusal StoreFailed P = Unit {0}
IfRefusal Halted P = Unit {0}
IfRefusal NoMemory P = Unit {0}

-- a commit that is refused comes with a path of which this holds, or with none of which it does
abbrev pub HasPath : {T : Type 0} → Result T NotCommitted → (Option PathValue → Type 0) → Type 0
HasPath (Ok made) P = Unit {0}
HasPath (Err refused) P = IfRefusal refused.fault (P refused.path)

-- a refusal is told as such, or where memory runs out for its path, as that; another fault as what
-- it is
abbrev pub IsToldAs : ChangeFault → ChangeFault → Type 0
IsToldAs (Refused r) told = (told ≡ Refused r) ⊎ (told ≡ NoMemory)
IsToldAs StoreFailed told = told ≡ StoreFailed
IsToldAs Halted told = told ≡ Halted
IsToldAs NoMemory told = told ≡ NoMemory
