use Rattle.machine.proofs.Resting.{rests_on}
use Rattle.machine.proofs.laws.steps_rest.Goals as goal

pub returns : goal.returns
returns c = rests_on
