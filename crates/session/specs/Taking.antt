-- What is taken from a stream.
use Rattle.std.specs.Prelude.{ℕ, ◌<◌, List, length}
use Rattle.items.specs.{View.value_of, declared.reader.ItemFault.ItemFault}
use Rattle.items.specs.declared.reader.ItemFault.TheVariants as faults
use Rattle.machine.specs.{Hearing.Input, Hearing.Input.{Broken, Whole}}
use Rattle.session.specs.declared.incoming.Incoming.{Incoming}
use Rattle.session.specs.declared.incoming.Incoming.TheVariants as incoming

-- the input that was taken
abbrev pub input_of : Incoming → Input
input_of (incoming.Whole item) = Whole (value_of item)
input_of incoming.Broken = Broken

-- an item leaves less of the stream than there was
abbrev pub Shortens : Incoming → List ℕ → List ℕ → Type 0
Shortens (incoming.Whole item) old new = length new < length old
Shortens incoming.Broken old new = Unit {0}

-- a fault of the stream itself
abbrev pub IsBrokenFault : ItemFault → Type 0
IsBrokenFault (faults.Malformed place) = Unit {0}
IsBrokenFault (faults.TooDeep place) = Unit {0}
IsBrokenFault (faults.StringTooLong place) = Unit {0}
IsBrokenFault (faults.NumberTooLarge place) = Unit {0}
IsBrokenFault faults.NoMemory = ⊥
