use Rattle.std.proofs.Common.{arith, subst, ◌∙◌}
use Rattle.repo_api.specs.Histories.{history_of}
use Rattle.history.specs.Unconcerned.{IsUnconcerned}
use Rattle.history.proofs.Passing.{listed_unconcerned}
use Rattle.history.proofs.walk.unconcerned_place.Goals as goal

pub loop-revision-preserved : goal.loop-revision-preserved
loop-revision-preserved g c = record {
  within = omega (arith, c.loop-revision.invariant.within);
  listed = λ strict low.
      c.loop-revision.invariant.listed strict low
      ∙ listed_unconcerned (history_of (g.R.Repository.content c.args.repository.now)) strict low c.args.at.path c.loop-revision.revision
      (omega (arith, c.loop-revision-test.true)) (subst (λ cs. IsUnconcerned cs c.args.at.path) c.changes.ensures (c.is_concerned.ensures c.if-not-is_concerned.true));
}
