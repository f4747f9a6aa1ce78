use Rattle.repo_laws.proofs.Edited.{begun_transaction}
use Rattle.repo_laws.proofs.laws.beginnings_are_marked.Goals as goal

pub returns : goal.returns
returns c = λ trees n marked. begun_transaction trees (trees n) (marked.named n) (marked.closed n)
