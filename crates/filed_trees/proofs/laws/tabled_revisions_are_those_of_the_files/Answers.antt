use Rattle.filed_trees.proofs.Seen.{revisions_agree}
use Rattle.filed_trees.proofs.laws.tabled_revisions_are_those_of_the_files.Goals as goal

pub returns : goal.returns
returns c = λ files blocks tables changes all n revision tree said.
    revisions_agree files tables blocks changes all n revision tree said
