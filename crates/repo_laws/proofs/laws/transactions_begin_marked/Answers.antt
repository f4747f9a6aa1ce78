use Rattle.repo_laws.proofs.Revisions.{begun_marked}
use Rattle.repo_laws.proofs.laws.transactions_begin_marked.Goals as goal

pub returns : goal.returns
returns c = begun_marked
