use Rattle.repo_api.specs.Histories.{history_of}
use Rattle.history.proofs.Walking.{past_on}
use Rattle.history.proofs.walks.Walks.head_after.Goals as goal

pub returns-then-listed-newest : goal.returns-then-listed-newest
returns-then-listed-newest g c =
    past_on (history_of (g.R.Repository.content c.args.repository.now)) c.args.self.now.strict c.args.self.now.low c.args.newest c.in-Some.listed c.args.head
    c.next_listed.result c.if-listed-newest.true c.in-Some.is c.next_listed.ensures
