use Rattle.repo_laws.proofs.Naming.{one_subtree, one_look}
use Rattle.repo_laws.proofs.laws.marks_name_one_thing.Goals as goal

pub returns-clause-lasts : goal.returns-clause-lasts
returns-clause-lasts c = one_subtree

pub returns-clause-owns : goal.returns-clause-owns
returns-clause-owns c = one_look
