use Rattle.repo_laws.proofs.Marking.{transaction_later}
use Rattle.repo_laws.proofs.laws.new_revisions_keep_transactions.Goals as goal

pub returns : goal.returns
returns c = transaction_later
