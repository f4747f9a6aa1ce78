use Rattle.filed_trees.proofs.Seen.{trees_agree}
use Rattle.filed_trees.proofs.laws.tabled_trees_are_those_of_the_files.Goals as goal

pub returns : goal.returns
returns c = λ files blocks tables changes all n path. trees_agree files tables blocks changes all n path
