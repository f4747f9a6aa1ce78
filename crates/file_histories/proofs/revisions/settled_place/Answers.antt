use Rattle.repo_api.specs.Histories.{history_of}
use Rattle.file_histories.proofs.Passed.{settled}
use Rattle.file_histories.proofs.revisions.settled_place.Goals as goal

pub returns-clause-same : goal.returns-clause-same
returns-clause-same g c =
    settled (history_of (g.R.Repository.content c.args.repository.now)) c.args.at c.settled-revision.result (λ root. cc (c.if-is_root.ensures.1 root))
    c.settled-revision.ensures.within c.settled-revision.ensures.quiet
