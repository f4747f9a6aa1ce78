-- How time goes on for a store, and why a call fails.
use Rattle.std.specs.Prelude.{◌≡◌, ◌⊎◌, ◌≤◌, ◌<◌, ℕ, Result, IsErr, IsErrOf}
use Rattle.std.proofs.Common.{arith}
use Rattle.store_files.specs.{Folders.Folder, declared.fault.StoreFault.StoreFault, declared.fault.StoreFault.TheVariants.{Device, NoMemory}}

-- Time goes on: what a stop since t may have left is what it may have left before, or what it may
-- leave during this call.
pub record Elapses (before now : ℕ) (past since : ℕ → Folder → Type 0)
    (during : Folder → Type 0) : Type 0 where
  pub later : before ≤ now
  pub nothing_else : (t : ℕ) (f : Folder) → t ≤ before → since t f → past t f ⊎ during f
  pub keeps : (t : ℕ) (f : Folder) → t ≤ before → past t f → since t f

-- the count of failures stays at its greatest value
abbrev pub last_count : ℕ
last_count = 18446744073709551615

pub zero_le : (n : ℕ) → 0 ≤ n
zero_le n = omega arith

abbrev pub HasRisen : ℕ → ℕ → Type 0
HasRisen before after = (before < after) ⊎ (after ≡ last_count)

-- a call of a store fails by its device, which is counted, or for want of memory
pub record HasCause {T : Type 0} (before now : ℕ) (result : Result T StoreFault) : Type 0 where
  pub later : before ≤ now
  pub device : IsErrOf result Device → HasRisen before now
  pub steady : (IsErrOf result Device → ⊥) → now ≡ before
  pub only : IsErr result → IsErrOf result Device ⊎ IsErrOf result NoMemory
