use Rattle.session_pool.specs.Serving.{settings_of, stand}
use Rattle.session_pool.proofs.InTurn.{serves_one_more}
use Rattle.session_pool.proofs.pool.SessionPool.serve_at.Goals as goal

pub loop-preserved : goal.loop-preserved
loop-preserved g c =
    let point = g.A.RepoAccess.point in
    let old = stand (settings_of c.args.self.now) (point c.args.desk.0) c.args.desk.1 in (
      tt,
      tt,
      c.serve_one-served.ensures.sound,
      serves_one_more g.A.RepoAccess.rules g.E.EnvSource.gives old _ _ _ _ _ c.loop.invariant.3 c.options-options.ensures
          c.serve_one-served.ensures.served,
    )
