-- What a reading answers.
use Rattle.std.specs.Prelude.{◌≡◌, ◌⊎◌, Option, Some, None, Result, Ok, Err}
use Rattle.fsfs_text.specs.{declared.fault.FileFault.FileFault, declared.fault.FileFault.TheVariants.{BadLine, NoMemory}}

infixl 10 ◌>>=◌
-- What is read after it, if it could be read. The first fault is the fault of all.
abbrev pub ◌>>=◌ : {A B : Type 0} → Result A FileFault → (A → Result B FileFault) → Result B FileFault
(Ok x) >>= next = next x
(Err f) >>= next = Err f

-- nothing is a malformed line
abbrev pub or_bad : {A : Type 0} → Option A → Result A FileFault
or_bad (Some x) = Ok x
or_bad None = Err BadLine

-- what a function returned, seen by view, is what reading gives
abbrev pub Gives : {X Y : Type 0} → (X → Y) → Result X FileFault → Result Y FileFault → Type 0
Gives view (Ok x) read = read ≡ Ok (view x)
Gives view (Err f) read = read ≡ Err f

-- the same, unless memory ran out
abbrev pub Answers : {X Y : Type 0} → (X → Y) → Result X FileFault → Result Y FileFault → Type 0
Answers view (Ok x) read = read ≡ Ok (view x)
Answers view (Err f) read = (read ≡ Err f) ⊎ (f ≡ NoMemory)
