-- How a client is told that a path or a URL is none.
use Rattle.svnpath.specs.declared.fault.PathFault.{PathFault}
use Rattle.svnpath.specs.declared.fault.PathFault.TheVariants as faults
use Rattle.refusals.specs.declared.Refusal.{Refusal}
use Rattle.refusals.specs.declared.Refusal.TheVariants as refusals

abbrev pub path_refusal : PathFault → Refusal
path_refusal faults.EmptyComponent = refusals.BadPath
path_refusal faults.ForbiddenComponent = refusals.BadPath
path_refusal faults.TooLong = refusals.BadPath
path_refusal faults.TooDeep = refusals.BadPath
path_refusal faults.NotThisRepository = refusals.NoSuchRepository
path_refusal faults.NoMemory = refusals.BadPath
