use Rattle.std.proofs.Common.{length}
use Rattle.svndiff0.specs.Sums.{SumsGrow}
use Rattle.svndiff0.proofs.Sections.{Left}
use Rattle.svndiff0.proofs.section.carry_out.Given as goal

abbrev pub invariant-loop-rest : goal.invariant-loop-rest
invariant-loop-rest l = record {
  left : Left l.view l.section l.new_data l.fn.text.items l.rest l.fresh l.text.items;
  grows : SumsGrow l.fn.text.items l.text.items;
}

abbrev pub decreases-loop-rest : goal.decreases-loop-rest
decreases-loop-rest l = length l.rest
