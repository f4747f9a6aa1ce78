use Rattle.hub.proofs.{Failing.{run_counted, not_halted}, Calling.calls_counted}
use Rattle.hub.proofs.laws.halts_are_counted.Goals as goal

pub returns : goal.returns
returns c = (
  λ old new env after events told run. not_halted old new (run_counted old new env after events told run),
  λ old new calls outcomes run. not_halted old new (calls_counted old new calls outcomes run),
)
