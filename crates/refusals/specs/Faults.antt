-- Why a command was not carried out.
use Rattle.std.specs.Prelude.{Option}
use Rattle.svnpath.specs.{Paths.PathValue, declared.fault.PathFault.PathFault}
use Rattle.svnpath.specs.declared.fault.PathFault.TheVariants as path_faults
use Rattle.refusals.specs.{Refusing.path_refusal, declared.Refusal.Refusal, declared.fault.NotDone.NotDone}
use Rattle.refusals.specs.{declared.fault.NotDone.TheVariants.{Refused, NoMemory}, declared.fault.NotDoneAt.NotDoneAt}
use Rattle.refusals.specs.declared.fault.NotDoneAt.TheVariants as placed

-- a path or a URL that is invalid is refused
abbrev pub fault_of_path : PathFault → NotDone
fault_of_path path_faults.EmptyComponent = Refused (path_refusal path_faults.EmptyComponent)
fault_of_path path_faults.ForbiddenComponent = Refused (path_refusal path_faults.ForbiddenComponent)
fault_of_path path_faults.TooLong = Refused (path_refusal path_faults.TooLong)
fault_of_path path_faults.TooDeep = Refused (path_refusal path_faults.TooDeep)
fault_of_path path_faults.NotThisRepository = Refused (path_refusal path_faults.NotThisRepository)
fault_of_path path_faults.NoMemory = NoMemory

-- what is known of a refusal
abbrev pub IfRefusedBy : NotDone → (Refusal → Type 0) → Type 0
IfRefusedBy (Refused r) P = P r
IfRefusedBy NoMemory P = Unit {0}

-- what is known where memory was refused
abbrev pub IfNoMemory : NotDone → Type 0 → Type 0
IfNoMemory (Refused r) P = Unit {0}
IfNoMemory NoMemory P = P

-- what is known of a refusal, and of the path at which the command is refused
abbrev pub IfRefusedAt : NotDoneAt → (Refusal → Option PathValue → Type 0) → Type 0
IfRefusedAt (placed.Refused r path) P = P r path
IfRefusedAt placed.NoMemory P = Unit {0}
