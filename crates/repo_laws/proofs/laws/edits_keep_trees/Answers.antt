use Rattle.repo_laws.proofs.Standing.{edited_tree}
use Rattle.repo_laws.proofs.laws.edits_keep_trees.Goals as goal

pub returns : goal.returns
returns c = edited_tree
