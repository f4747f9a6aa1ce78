use Rattle.std.proofs.Common.{length}
use Rattle.cram.proofs.Equal.{IsDifference}
use Rattle.cram.proofs.answer.are_equal.Given as goal

abbrev pub invariant-loop-this : goal.invariant-loop-this
invariant-loop-this l = IsDifference l.these l.those (length l.yielded) l.difference
