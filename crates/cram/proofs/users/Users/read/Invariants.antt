use Rattle.std.proofs.Common.{length}
use Rattle.cram.proofs.Reading.{IsReadTo}
use Rattle.cram.proofs.users.Users.read.Given as goal

abbrev pub invariant-loop-rest : goal.invariant-loop-rest
invariant-loop-rest l = IsReadTo l.bytes l.rest l.draft.has_header l.draft.users l.number

abbrev pub decreases-loop-rest : goal.decreases-loop-rest
decreases-loop-rest l = length l.rest
