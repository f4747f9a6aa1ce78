-- The instructions of a window, whose kind is in the two high bits of their first byte.
use Rattle.std.specs.Prelude.{ℕ, zero, suc, ◌+◌, ◌-◌, List, [], ◌∷◌, ◌++◌, length, take, drop, Some, None, Result, Ok, Err, nat_lt, ◌==◌, if◌then◌else◌}
use Rattle.svndiff0.specs.{declared.fault.DiffFault.DiffFault, declared.fault.DiffFault.TheVariants.{TargetCopy, BadInstruction, CopyBeyondView}}
use Rattle.svndiff0.specs.{declared.instruction.Instruction.Instruction, declared.instruction.Instruction.TheVariants.{SourceCopy, NewData}, Read.{Read, ◌>>=◌}}
use Rattle.svndiff0.specs.Integer.{integer_at}

-- the length is the low six bits, or where these are zero the integer that follows, which isn't
-- zero
unfoldable pub length_at : ℕ → List ℕ → Read ℕ
length_at low bytes =
    if low == 0 then (integer_at bytes >>= λ n. if n.0 == 0 then Err BadInstruction else Ok
    (Some n)) else Ok (Some (low, bytes))

-- a copy from the source view: a length, and an offset in the view
unfoldable pub copy_at : ℕ → ℕ → List ℕ → Read Instruction
copy_at view low bytes = do
  n ← length_at low bytes
  offset ← integer_at n.1
  if nat_lt view (offset.0 + n.0) then Err CopyBeyondView else Ok (Some (SourceCopy offset.0 n.0, offset.1))

-- new data: a length
unfoldable pub new_data_at : ℕ → List ℕ → Read Instruction
new_data_at low bytes = do
  n ← length_at low bytes
  Ok (Some (NewData n.0, n.1))

-- kind 0 is a source copy, kind 1 a target copy, kind 2 new data
unfoldable pub instruction_at : ℕ → List ℕ → Read Instruction
instruction_at view [] = Ok None
instruction_at view (b ∷ bs) =
    if nat_lt b 64 then copy_at view b bs
    else if nat_lt b 128 then Err TargetCopy
    else if nat_lt b 192 then new_data_at (b - 128) bs
    else Err BadInstruction

-- an instruction in front of others
abbrev pub before : Instruction → Result (List Instruction) DiffFault
    → Result (List Instruction) DiffFault
before i (Ok is) = Ok (i ∷ is)
before i (Err f) = Err f

-- an instruction that was read, and the others; one that is cut is malformed, as the section ends
-- there
abbrev pub with_others : Read Instruction → (List ℕ → Result (List Instruction) DiffFault)
    → Result (List Instruction) DiffFault
with_others (Err f) others = Err f
with_others (Ok None) others = Err BadInstruction
with_others (Ok (Some x)) others = before x.0 (others x.1)

-- the instructions of a section of at most so many bytes
abbrev pub instructions_within : ℕ → ℕ → List ℕ → Result (List Instruction) DiffFault
instructions_within n view [] = Ok []
instructions_within zero view (b ∷ bs) = Ok []
instructions_within (suc n) view (b ∷ bs) =
    with_others (instruction_at view (b ∷ bs)) (λ rest. instructions_within n view rest)

-- the instructions of a section, over a source view of this length
unfoldable pub instructions_of : ℕ → List ℕ → Result (List Instruction) DiffFault
instructions_of view section = instructions_within (length section) view section

-- how many bytes an instruction gives
abbrev pub size : Instruction → ℕ
size (SourceCopy offset n) = n
size (NewData n) = n

-- how many bytes of new data it takes
abbrev pub new_size : Instruction → ℕ
new_size (SourceCopy offset n) = 0
new_size (NewData n) = n

-- what it gives: a part of the view, or the first of the new data that is left
abbrev pub given : List ℕ → List ℕ → Instruction → List ℕ
given view fresh (SourceCopy offset n) = take n (drop offset view)
given view fresh (NewData n) = take n fresh

abbrev pub total : List Instruction → ℕ
total [] = 0
total (i ∷ is) = size i + total is

abbrev pub new_total : List Instruction → ℕ
new_total [] = 0
new_total (i ∷ is) = new_size i + new_total is

-- what instructions give, one after another
abbrev pub target_of : List ℕ → List ℕ → List Instruction → List ℕ
target_of view fresh [] = []
target_of view fresh (i ∷ is) = given view fresh i ++ target_of view (drop (new_size i) fresh) is
