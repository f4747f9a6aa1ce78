use Rattle.repo_laws.proofs.Revisions.{opening_marked}
use Rattle.repo_laws.proofs.laws.opening_is_marked.Goals as goal

pub returns : goal.returns
returns c = opening_marked
