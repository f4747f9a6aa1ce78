use Rattle.std.proofs.Common.{subst, sym}
use Rattle.access.specs.Points.{content_of, Point}
use Rattle.repo_api.specs.Soundness.{AreSound}
use Rattle.session_pool.specs.Serving.{stands}
use Rattle.session_pool.proofs.InTurn.{one_served}
use Rattle.session_pool.proofs.pool.SessionPool.serve_one.Goals as goal

pub returns-clause-sound : goal.returns-clause-sound
returns-clause-sound g c =
    subst (λ (p : Point). AreSound (content_of p).revisions) (sym c.into_desk.ensures.point) c.serve-done.ensures.sound

pub returns-clause-served : goal.returns-clause-served
returns-clause-served g c =
    let seen = stands g.A.RepoAccess.point in
    one_served g.A.RepoAccess.rules g.E.EnvSource.gives _ _ _ _ _ (seen c.new-attendant.result) (seen c.serve-done.new.self) _ _ _ _ _
    c.new-attendant.ensures c.into_desk.ensures.point c.into_desk.ensures.envs c.serve-done.ensures.served
