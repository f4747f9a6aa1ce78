use Rattle.pathlocks.proofs.AllHeld.{all_held}
use Rattle.pathlocks.proofs.laws.locks_in_the_way_are_held.Goals as goal

pub returns : goal.returns
returns c = all_held
