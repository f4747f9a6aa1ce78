use Rattle.svndiff0.proofs.Integers.{Scanned}
use Rattle.svndiff0.proofs.integer.read_integer.Given as goal

abbrev pub invariant-loop : goal.invariant-loop
invariant-loop l = Scanned l.bytes l.counter l.value l.rest
