use Rattle.hub.proofs.{Staying.run_keeps, Calling.calls_keep_revisions}
use Rattle.hub.proofs.laws.revisions_stay.Goals as goal

pub returns : goal.returns
returns c = (run_keeps, calls_keep_revisions)
