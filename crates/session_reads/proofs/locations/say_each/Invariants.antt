-- The locations so far are told.
use Rattle.std.proofs.Common.{drop}
use Rattle.machine.specs.Histories.{location_told}
use Rattle.session_reads.proofs.Each.{Told}
use Rattle.session_reads.proofs.locations.say_each.Given as goal

abbrev pub invariant-loop-revision : goal.invariant-loop-revision
invariant-loop-revision g l =
    Told location_told g.S.ReplySink.writes l.fn.out l.out l.found (drop l.revision-index l.found)
