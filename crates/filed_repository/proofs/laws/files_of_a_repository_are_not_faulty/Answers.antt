use Rattle.filed_repository.proofs.NotFaulty.{not_faulty}
use Rattle.filed_repository.proofs.laws.files_of_a_repository_are_not_faulty.Goals as goal

pub returns : goal.returns
returns c = λ f files folder is has faulty. not_faulty f files folder is has faulty
