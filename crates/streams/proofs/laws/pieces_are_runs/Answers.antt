use Rattle.streams.proofs.Joining.{pieces_run}
use Rattle.streams.proofs.laws.pieces_are_runs.Goals as goal

pub returns : goal.returns
returns c = pieces_run
