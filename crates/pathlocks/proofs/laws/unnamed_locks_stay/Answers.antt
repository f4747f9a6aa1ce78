use Rattle.pathlocks.proofs.Changing.{all_stay}
use Rattle.pathlocks.proofs.laws.unnamed_locks_stay.Goals as goal

pub returns : goal.returns
returns c = all_stay
