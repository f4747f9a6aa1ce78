use Rattle.std.proofs.Common.{length}
use Rattle.repo_api.specs.States.{IsBeginning}
use Rattle.access.specs.Points.{content_of}
use Rattle.machine.specs.Stages.{StandsOn}
use Rattle.session.proofs.Runs.{Progress}
use Rattle.session.proofs.session.serve_all.Given as goal

abbrev pub invariant-inputs : goal.invariant-inputs
invariant-inputs g l =
    StandsOn l.phase (content_of (g.A.RepoAccess.point l.access))
    × IsBeginning (content_of (g.A.RepoAccess.point l.fn.access)).revisions (content_of (g.A.RepoAccess.point l.access)).revisions
    × (g.S.Texts.is_honest l.turn.out → g.S.Texts.is_honest l.fn.turn.out)
    × (g.S.Texts.is_honest l.turn.out → Progress g.A.RepoAccess.rules l.fn.options l.fn.turn.env (g.A.RepoAccess.point l.fn.access) l.fn.phase l.fn.reader.rest l.turn.env (g.A.RepoAccess.point l.access) l.phase l.reader.rest (g.S.ReplySink.writes l.fn.turn.out l.turn.out))

abbrev pub decreases-inputs : goal.decreases-inputs
decreases-inputs g l = length l.reader.rest
