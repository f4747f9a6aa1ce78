use Rattle.std.proofs.Common.{length}
use Rattle.mergeinfo.proofs.Gathering.{IsReadTo}
use Rattle.mergeinfo.proofs.info.gather.Given as goal

abbrev pub invariant-loop-rest : goal.invariant-loop-rest
invariant-loop-rest l = IsReadTo l.value l.rest l.gathered.entries

abbrev pub decreases-loop-rest : goal.decreases-loop-rest
decreases-loop-rest l = length l.rest
