use Rattle.filed_trees.proofs.SameNext.{same_next}
use Rattle.filed_trees.proofs.laws.what_comes_next_depends_on_what_nodes_have.Goals as goal

pub returns : goal.returns
returns c = λ past other b c changes same high next. same_next past other b c same changes next high
