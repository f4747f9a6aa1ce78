use Rattle.hub.proofs.Staying.{event_counts}
use Rattle.hub.proofs.laws.one_revision_an_event.Goals as goal

pub returns : goal.returns
returns c = event_counts
