use Rattle.repo_laws.proofs.MergeLaws.{keeps_theirs, keeps_ours}
use Rattle.repo_laws.proofs.laws.merges_keep_both_sides.Goals as goal

pub returns-clause-theirs : goal.returns-clause-theirs
returns-clause-theirs c = λ trees n base youngest txn w. keeps_theirs trees n base youngest txn w

pub returns-clause-ours : goal.returns-clause-ours
returns-clause-ours c = λ trees n base youngest txn w. keeps_ours trees n base youngest txn w
