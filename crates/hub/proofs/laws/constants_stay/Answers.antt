use Rattle.hub.proofs.{Staying.run_constants, Calling.calls_constants}
use Rattle.hub.proofs.laws.constants_stay.Goals as goal

pub returns : goal.returns
returns c = (run_constants, calls_constants)
