use Rattle.std.proofs.Common.{◌≡◌, length}
use Rattle.access.specs.Points.{content_of}
use Rattle.machine.specs.Stages.{StandsOn}
use Rattle.conversations.specs.Conversation.{Converses, sight}
use Rattle.conversations.proofs.worker.Worker.converse.Given as goal

abbrev pub invariant-loop-turn : goal.invariant-loop-turn
invariant-loop-turn g l =
    (length l.buffer ≡ 65536)
    × StandsOn l.session.phase (content_of (g.A.RepoAccess.point l.self.access))
    × (l.self.options.now ≡ l.fn.self.options.now)
    × Converses g.A.RepoAccess.rules l.fn.self.options.now g.E.EnvSource.gives
    (sight (g.A.RepoAccess.point l.fn.self.access) (g.I.Read.remaining l.fn.input) (g.O.Write.contents l.fn.output) l.fn.self.envs)
    l.session.phase l.session.rest
    (sight (g.A.RepoAccess.point l.self.access) (g.I.Read.remaining l.input) (g.O.Write.contents l.output) l.self.envs)
