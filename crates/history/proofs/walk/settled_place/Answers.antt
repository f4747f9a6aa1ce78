use Rattle.repo_api.specs.Histories.{history_of}
use Rattle.history.proofs.{AllLines.lines_settled, Ends.line_settled, Passing.listed_settled}
use Rattle.history.proofs.walk.settled_place.Goals as goal

pub returns-clause-listed : goal.returns-clause-listed
returns-clause-listed g c strict low =
    listed_settled (history_of (g.R.Repository.content c.args.repository.now)) strict low c.args.at c.settled-revision.result (λ root. cc (c.if-is_root.ensures.1 root))
    c.settled-revision.ensures.within c.settled-revision.ensures.quiet

pub returns-clause-line : goal.returns-clause-line
returns-clause-line g c =
    line_settled (history_of (g.R.Repository.content c.args.repository.now)) c.args.at c.settled-revision.result c.settled-revision.ensures.within
    c.settled-revision.ensures.quiet

pub returns-clause-beneath : goal.returns-clause-beneath
returns-clause-beneath g c =
    lines_settled (history_of (g.R.Repository.content c.args.repository.now)) c.args.at c.settled-revision.result c.settled-revision.ensures.within
    c.settled-revision.ensures.quiet
