use Rattle.std.specs.{Prelude.All, Vec.Iter.into_iter_items}
use Rattle.access.specs.Points.{content_of}
use Rattle.published.specs.Events.{point_of}
use Rattle.repo_api.specs.Soundness.{AreSound}
use Rattle.session_rows.proofs.gate.fn.serve_in_threads.scope.Given as goal

abbrev pub invariant-loop-desk : goal.invariant-loop-desk
invariant-loop-desk g l =
    (goal.iterator-loop-desk g).can_next l.desk-iterator
    × (goal.iterator-loop-desk g).is_finite l.desk-iterator
    × All (λ d. AreSound (content_of (point_of d.seat)).revisions) (into_iter_items l.desk-iterator)
