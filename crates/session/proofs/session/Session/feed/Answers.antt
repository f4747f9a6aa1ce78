use Rattle.std.proofs.Common.{◌++◌, ap, ◌∙◌}
use Rattle.access.specs.Points.{content_of}
use Rattle.machine.specs.Stages.{SessionState}
use Rattle.machine.proofs.Resting.{begins}
use Rattle.session.proofs.Runs.{lost_all}
use Rattle.session.proofs.session.Session.feed.Goals as goal

pub returns-then-not-is_open-clause-stays : goal.returns-then-not-is_open-clause-stays
returns-then-not-is_open-clause-stays g c = begins (content_of (g.A.RepoAccess.point c.args.access.now)).revisions

pub returns-in_default-clause-stays : goal.returns-in_default-clause-stays
returns-in_default-clause-stays g c = begins (content_of (g.A.RepoAccess.point c.args.access.now)).revisions

pub returns-in_default-clause-lost : goal.returns-in_default-clause-lost
returns-in_default-clause-lost g c =
    λ _ _. lost_all g.S.ReplySink.writes g.met.S.ReplySink.nothing g.met.S.ReplySink.more g.A.RepoAccess.rules c.args.options.now g.met.A.RepoAccess.stays
    c.args.turn.now.env (g.A.RepoAccess.point c.args.access.now) c.args.self.now.phase (c.args.self.now.rest ++ c.args.piece.now) c.args.turn.now.out

pub returns-in-Ok-serve_all-clause-ok : goal.returns-in-Ok-serve_all-clause-ok
returns-in-Ok-serve_all-clause-ok g c =
    let rest = ap (λ (s : SessionState). s.rest) c.self.view_is ∙ c.in-Ok.ensures.rest in
    λ known. rw c.replace.ensures.after (rw (← rest) (rw (← c.in-Ok.ensures.phase) (c.in-Ok-serve_all.ensures.ok known)))

pub returns-in-Err-clause-lost : goal.returns-in-Err-clause-lost
returns-in-Err-clause-lost g c =
    let rest = ap (λ (s : SessionState). s.rest) c.self.view_is ∙ c.in-Ok.ensures.rest in
    λ known _. rw (← rest) (rw (← c.in-Ok.ensures.phase) (c.in-Err.ensures.err known))
