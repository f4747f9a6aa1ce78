use Rattle.std.proofs.Common.{length}
use Rattle.svndiff0.proofs.Sections.{Summed}
use Rattle.svndiff0.proofs.section.sum_lengths.Given as goal

abbrev pub invariant-loop-rest : goal.invariant-loop-rest
invariant-loop-rest l = Summed l.view l.section l.all l.new_data l.rest

abbrev pub decreases-loop-rest : goal.decreases-loop-rest
decreases-loop-rest l = length l.rest
