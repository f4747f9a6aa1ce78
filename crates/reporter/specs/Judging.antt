-- What the judging of a command of a report answers.
use Rattle.std.specs.Prelude.{◌≡◌, IfOk, Result, Ok, Err}
use Rattle.refusals.specs.{declared.Refusal.Refusal, declared.fault.NotDone.NotDone}
use Rattle.refusals.specs.declared.fault.NotDone.TheVariants as faults

-- the result is what is wanted, or memory ran out
abbrev pub JudgesReport : {T : Type 0} → Result T NotDone → Result T Refusal → Type 0
JudgesReport (Ok value) wanted = wanted ≡ Ok value
JudgesReport (Err (faults.Refused r)) wanted = wanted ≡ Err r
JudgesReport (Err faults.NoMemory) wanted = Unit {0}

-- so it is, and this holds of what is answered
abbrev pub JudgesAnd : {T : Type 0} → (T → Type 0) → Result T NotDone → Result T Refusal → Type 0
JudgesAnd P result wanted = JudgesReport result wanted × IfOk result P
