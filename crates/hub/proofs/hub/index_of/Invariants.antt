use Rattle.hub.proofs.Places.{NoneBelow}
use Rattle.hub.proofs.hub.index_of.Given as goal

abbrev pub invariant-loop-i : goal.invariant-loop-i
invariant-loop-i g l = NoneBelow l.sessions l.number l.i
