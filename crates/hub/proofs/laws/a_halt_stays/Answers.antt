use Rattle.hub.proofs.{Failing.run_halted, Calling.calls_halted}
use Rattle.hub.proofs.laws.a_halt_stays.Goals as goal

pub returns : goal.returns
returns c = (run_halted, calls_halted)
