use Rattle.std.proofs.Common.{◌∙◌, sym}
use Rattle.repo_api.specs.Histories.{history_of}
use Rattle.history.specs.Walks.{of_coming}
use Rattle.history.proofs.Logging.{limit_next}
use Rattle.history.proofs.log.Log.next.Goals as goal

pub returns-clause-ok : goal.returns-clause-ok
returns-clause-ok g c =
    limit_next c.args.self.now.left c.one_less-self.result (of_coming (history_of (g.R.Repository.content c.args.repository.now)) c.args.self.now.coming)
    (of_coming (history_of (g.R.Repository.content c.args.repository.now)) c.next.new.self) c.next.result (sym c.is_spent.ensures ∙ c.if-is_spent.false)
    c.one_less-self.ensures c.next.ensures.ok
