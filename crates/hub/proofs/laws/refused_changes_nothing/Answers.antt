use Rattle.hub.proofs.Staying.{event_refused}
use Rattle.hub.proofs.laws.refused_changes_nothing.Goals as goal

pub returns : goal.returns
returns c = event_refused
