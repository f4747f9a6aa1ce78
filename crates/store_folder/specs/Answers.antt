-- The answers of calls as numbers.
use Rattle.std.specs.Prelude.{ℕ, Result, Ok, Err}
use Rattle.store_files.specs.{declared.fault.StoreFault.StoreFault, declared.fault.ReplaceFault.ReplaceFault}
use Rattle.store_files.specs.declared.fault.StoreFault.TheVariants as faults
use Rattle.store_files.specs.declared.fault.ReplaceFault.TheVariants as replace
use Rattle.store_folder.specs.{declared.fault.Trouble.Trouble, declared.fault.Trouble.TheVariants.{Device, NoMemory}}

abbrev pub fault_of : Trouble → StoreFault
fault_of Device = faults.Device
fault_of NoMemory = faults.NoMemory

abbrev pub trouble_number : Trouble → ℕ
trouble_number Device = 1
trouble_number NoMemory = 2

abbrev pub done_number : Result (Unit {0}) Trouble → ℕ
done_number (Ok _) = 0
done_number (Err trouble) = trouble_number trouble

abbrev pub done_result : Result (Unit {0}) Trouble → Result (Unit {0}) StoreFault
done_result (Ok x) = Ok x
done_result (Err trouble) = Err (fault_of trouble)

abbrev pub replaced_number : Result (Unit {0}) ReplaceFault → ℕ
replaced_number (Ok _) = 0
replaced_number (Err replace.InDoubt) = 1
replaced_number (Err replace.NoMemory) = 2
replaced_number (Err replace.Unchanged) = 4
