-- What a reading answers.
use Rattle.std.specs.Prelude.{◌≡◌, ◌⊎◌, Option, Result, Ok, Err, MatchResult, ok_or}
use Rattle.wire_forms.specs.{declared.fault.CommandFault.CommandFault, declared.fault.CommandFault.TheVariants.{BadParameters, NoMemory}}

-- the result is what is wanted, or memory ran out
abbrev pub Answers : {T : Type 0} → Result T CommandFault → Result T CommandFault → Type 0
Answers result wanted =
    MatchResult result (λ value. wanted ≡ Ok value)
    (λ fault. (wanted ≡ Err fault) ⊎ (fault ≡ NoMemory))

-- the result is what is wanted, `BadParameters` where there is none, or memory ran out
abbrev pub Reads : {T : Type 0} → Result T CommandFault → Option T → Type 0
Reads result wanted = Answers result (ok_or wanted BadParameters)
