-- Reading from the front of bytes that may go on: a fault, or nothing until more has come, or a
-- value and the bytes behind it.
use Rattle.std.specs.Prelude.{◌≡◌, ℕ, List, Option, Some, None, Result, Ok, Err}
use Rattle.svndiff0.specs.declared.fault.DiffFault.{DiffFault}

abbrev pub Read : Type 0 → Type 0
Read A = Result (Option (A × List ℕ)) DiffFault

-- one after another
infixl 10 ◌>>=◌
abbrev pub ◌>>=◌ : {A B : Type 0} → Read A → (A × List ℕ → Read B) → Read B
(Err f) >>= next = Err f
(Ok None) >>= next = Ok None
(Ok (Some x)) >>= next = next x

-- what a function returned, seen by view, is what reading gives
abbrev pub Gives : {X Y : Type 0} → (X → Y) → Result (Option X) DiffFault
    → Result (Option Y) DiffFault → Type 0
Gives view (Err f) read = read ≡ Err f
Gives view (Ok None) read = read ≡ Ok None
Gives view (Ok (Some x)) read = read ≡ Ok (Some (view x))
