use Rattle.hub.proofs.{Failing.{run_counted, never_falls}, Calling.calls_counted}
use Rattle.hub.proofs.laws.failures_never_fall.Goals as goal

pub returns : goal.returns
returns c = (
  λ old new env after events told run. never_falls old new (run_counted old new env after events told run),
  λ old new calls outcomes run. never_falls old new (calls_counted old new calls outcomes run),
)
