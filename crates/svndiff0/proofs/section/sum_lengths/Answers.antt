use Rattle.std.proofs.Common.{sym, ◌∙◌, eqb-true}
use Rattle.svndiff0.proofs.Sections.{summed_more, summed_all}
use Rattle.svndiff0.proofs.section.sum_lengths.Goals as goal

pub loop-rest-preserved : goal.loop-rest-preserved
loop-rest-preserved c =
    rw (c.saturating_add-all.ensures, c.saturating_add-new_data.ensures, c.size.ensures, c.new_size.ensures)
    (summed_more _ _ _ _ _ _ _ c.loop-rest.invariant c.in_ok-instruction.ensures)

pub returns : goal.returns
returns c = summed_all _ _ _ _ _ c.loop-rest.invariant (eqb-true _ _ (sym c.is_empty.ensures ∙ c.loop-rest-test.false))
