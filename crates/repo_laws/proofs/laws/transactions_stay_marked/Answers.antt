use Rattle.repo_laws.proofs.Revisions.{edited_marked}
use Rattle.repo_laws.proofs.laws.transactions_stay_marked.Goals as goal

pub returns : goal.returns
returns c = edited_marked
