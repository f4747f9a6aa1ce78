-- What the code keeps beside the definition.
use Rattle.std.specs.Prelude.{◌≡◌, ℕ, ◌+◌, ◌≤◌, ◌<◌, ◌^◌, min, List, ◌++◌, length, Result, Ok, Err}
use Rattle.svndiff0.specs.{declared.fault.DiffFault.DiffFault, declared.instruction.Instruction.Instruction}
use Rattle.svndiff0.specs.{declared.instruction.Instruction.TheVariants.{SourceCopy, NewData}, declared.section.Sums.Sums, declared.window.Head.Head}
use Rattle.svndiff0.specs.{Instruction.{before, instructions_of, total, new_total}, Window.limit}

-- a sum, as far as a usize counts
abbrev pub summed : ℕ → ℕ
summed n = min n 18446744073709551615

abbrev pub sums_of : List Instruction → Sums
sums_of is = record { all = summed (total is); new_data = summed (new_total is) }

-- the sums of a section's lengths, or the rule that an instruction breaks
abbrev pub SumsUp : Result Sums DiffFault → Result (List Instruction) DiffFault → Type 0
SumsUp (Ok sums) read = (is : List Instruction) × (read ≡ Ok is) × (sums ≡ sums_of is)
SumsUp (Err f) read = read ≡ Err f

-- a copy lies in a view of this length
abbrev pub IsWithin : ℕ → Instruction → Type 0
IsWithin view (SourceCopy offset n) = offset + n ≤ view
IsWithin view (NewData n) = Unit {0}

-- the first instruction of a section, and the bytes behind it
pub record Starts (view : ℕ) (section : List ℕ) (i : Instruction) (rest : List ℕ) : Type 0 where
  pub step : instructions_of view section ≡ before i (instructions_of view rest)
  pub shorter : length rest < length section
  pub within : IsWithin view i

-- the bytes stay, and some may follow
abbrev pub SumsGrow : List ℕ → List ℕ → Type 0
SumsGrow old new = (added : List ℕ) × (new ≡ old ++ added)

-- the section breaks no rule, and no more new data is taken than there is
pub record IsRunnable (view : ℕ) (section : List ℕ) (fresh : ℕ) : Type 0 where
  pub is : List Instruction
  pub read : instructions_of view section ≡ Ok is
  pub enough : new_total is ≤ fresh

-- what the five integers of a window can be
pub record HasBounds (head : Head) : Type 0 where
  pub offset : head.offset < 2 ^ 63
  pub view : head.view < 2 ^ 63
  pub target : head.target ≤ limit
  pub section : head.section ≤ limit
  pub new_data : head.new_data ≤ limit
