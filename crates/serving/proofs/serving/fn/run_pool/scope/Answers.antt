use Rattle.std.proofs.{Common.rules, lemmas.List.Elements.All-rest}
use Rattle.access.specs.Points.{content_of}
use Rattle.published.specs.Events.{point_of}
use Rattle.repo_api.specs.Soundness.{AreSound}
use Rattle.serving.proofs.serving.fn.run_pool.scope.Goals as goal

pub loop-desk-preserved-else-is_err : goal.loop-desk-preserved-else-is_err
loop-desk-preserved-else-is_err g c =
    (tt, tt, All-rest (λ d. AreSound (content_of (point_of d.seat)).revisions) c.in-Some.desk _ _ (search rules) c.loop-desk.invariant.2)
