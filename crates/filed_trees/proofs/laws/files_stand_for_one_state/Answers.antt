use Rattle.filed_trees.proofs.States.{one_state}
use Rattle.filed_trees.proofs.laws.files_stand_for_one_state.Goals as goal

pub returns : goal.returns
returns c = λ files a b first second. one_state files a b first second
