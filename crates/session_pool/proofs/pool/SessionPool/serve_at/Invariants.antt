use Rattle.access.specs.Points.{content_of}
use Rattle.repo_api.specs.Soundness.{AreSound}
use Rattle.session_pool.specs.Serving.{ServesInTurn, settings_of, stand}
use Rattle.session_pool.proofs.pool.SessionPool.serve_at.Given as goal

abbrev pub invariant-loop : goal.invariant-loop
invariant-loop g l =
    let point = g.A.RepoAccess.point in
    (goal.iterator-loop g).can_next l.iterator' × (goal.iterator-loop g).is_finite l.iterator'
    × AreSound (content_of (point l.served.0)).revisions
    × ServesInTurn g.A.RepoAccess.rules g.E.EnvSource.gives
    (stand (settings_of l.self) (point l.fn.desk.0) l.fn.desk.1)
    (stand (settings_of l.self) (point l.served.0) l.served.1)
