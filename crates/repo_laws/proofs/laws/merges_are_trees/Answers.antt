use Rattle.repo_laws.proofs.MergeLaws.{merged_tree}
use Rattle.repo_laws.proofs.laws.merges_are_trees.Goals as goal

pub returns : goal.returns
returns c = λ trees n base youngest txn w. merged_tree trees n base youngest txn w
