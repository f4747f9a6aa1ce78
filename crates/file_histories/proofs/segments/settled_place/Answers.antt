use Rattle.repo_api.specs.Histories.{history_of}
use Rattle.file_histories.proofs.Stretches.{settled}
use Rattle.file_histories.proofs.segments.settled_place.Goals as goal

pub returns-clause-same : goal.returns-clause-same
returns-clause-same g c last =
    settled (history_of (g.R.Repository.content c.args.repository.now)) last c.args.at c.settled-revision.result c.settled-revision.ensures.within
    c.settled-revision.ensures.quiet
