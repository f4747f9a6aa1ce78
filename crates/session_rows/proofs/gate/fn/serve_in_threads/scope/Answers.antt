use Rattle.std.proofs.{Common.rules, lemmas.List.Elements.All-rest}
use Rattle.access.specs.Points.{content_of}
use Rattle.published.specs.Events.{point_of}
use Rattle.repo_api.specs.Soundness.{AreSound}
use Rattle.session_rows.proofs.gate.fn.serve_in_threads.scope.Goals as goal

pub loop-desk-preserved-in-Some : goal.loop-desk-preserved-in-Some
loop-desk-preserved-in-Some g c =
    (tt, tt, All-rest (λ d. AreSound (content_of (point_of d.seat)).revisions) c.in-Some.desk _ _ (search rules) c.loop-desk.invariant.2)
