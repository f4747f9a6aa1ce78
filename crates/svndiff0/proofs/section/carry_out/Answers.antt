use Rattle.std.proofs.Common.{sym, ◌∙◌, eqb-true}
use Rattle.svndiff0.proofs.Sections.{left_more, left_all, grows_more}
use Rattle.svndiff0.proofs.section.carry_out.Goals as goal

pub loop-rest-preserved : goal.loop-rest-preserved
loop-rest-preserved c = record {
  left = left_more _ _ _ _ _ _ _ _ _ _ _ c.loop-rest.invariant.left c.in-Ok.ensures c.in_ok-fresh.ensures.left c.in_ok-fresh.ensures.given;
  grows = grows_more _ _ _ _ c.loop-rest.invariant.grows c.in_ok-fresh.ensures.given;
}

pub returns-clause-ok : goal.returns-clause-ok
returns-clause-ok c = left_all _ _ _ _ _ _ _ c.loop-rest.invariant.left (eqb-true _ _ (sym c.is_empty.ensures ∙ c.loop-rest-test.false))
