-- Faults of files and of replacements, told as faults of a store.
use Rattle.std.specs.Prelude.{Result, Ok, Err}
use Rattle.fsfs_text.specs.declared.fault.FileFault.{FileFault}
use Rattle.fsfs_text.specs.declared.fault.FileFault.TheVariants.{Truncated, BadLine, Delta, Digest, Dangling, WrongFormat, NoMemory}
use Rattle.store_files.specs.{declared.fault.StoreFault.StoreFault, declared.fault.ReplaceFault.ReplaceFault}
use Rattle.store_files.specs.declared.fault.StoreFault.TheVariants as store
use Rattle.store_files.specs.declared.fault.ReplaceFault.TheVariants as replace

-- want of memory is no fault of a file
abbrev pub fault_of : FileFault → StoreFault
fault_of Truncated = store.File Truncated
fault_of BadLine = store.File BadLine
fault_of Delta = store.File Delta
fault_of Digest = store.File Digest
fault_of Dangling = store.File Dangling
fault_of WrongFormat = store.File WrongFormat
fault_of NoMemory = store.NoMemory

abbrev pub told_of : ReplaceFault → StoreFault
told_of replace.InDoubt = store.Device
told_of replace.Unchanged = store.Device
told_of replace.NoMemory = store.NoMemory

abbrev pub as_told : Result (Unit {0}) ReplaceFault → Result (Unit {0}) StoreFault
as_told (Ok x) = Ok x
as_told (Err fault) = Err (told_of fault)

-- a replacement that failed, and has changed nothing
abbrev pub IsRefused : Result (Unit {0}) ReplaceFault → Type 0
IsRefused (Ok x) = ⊥
IsRefused (Err replace.InDoubt) = ⊥
IsRefused (Err replace.Unchanged) = Unit {0}
IsRefused (Err replace.NoMemory) = Unit {0}
