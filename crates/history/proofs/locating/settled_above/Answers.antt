use Rattle.repo_api.specs.Histories.{history_of}
use Rattle.history.proofs.Passing.{goes_settled}
use Rattle.history.proofs.locating.settled_above.Goals as goal

pub returns-clause-goes : goal.returns-clause-goes
returns-clause-goes g c =
    goes_settled (history_of (g.R.Repository.content c.args.repository.now)) c.args.at c.args.revision c.settled-settled.result c.max.result c.max.ensures
    c.requires c.settled-settled.ensures.within c.settled-settled.ensures.quiet
