use Rattle.filed_trees.proofs.OneRepository.{same_revisions}
use Rattle.filed_trees.proofs.laws.files_say_one_repository.Goals as goal

pub returns : goal.returns
returns c = λ files blocks others tables more lists ms all also.
    same_revisions files blocks others tables more lists ms all also
