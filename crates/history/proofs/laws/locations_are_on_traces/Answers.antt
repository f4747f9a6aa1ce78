use Rattle.history.proofs.OnTraces.{on_traces}
use Rattle.history.proofs.laws.locations_are_on_traces.Goals as goal

pub returns : goal.returns
returns c = on_traces
