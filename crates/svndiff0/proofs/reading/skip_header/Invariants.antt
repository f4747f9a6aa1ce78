use Rattle.svndiff0.proofs.Headers.{Matched}
use Rattle.svndiff0.proofs.reading.skip_header.Given as goal

abbrev pub invariant-loop-wanted : goal.invariant-loop-wanted
invariant-loop-wanted l = Matched l.bytes l.wanted-index l.rest
