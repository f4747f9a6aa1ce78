use Rattle.text_deltas.proofs.Documents.{views_streamed}
use Rattle.text_deltas.proofs.laws.views_go_on.Goals as goal

pub returns : goal.returns
returns c = views_streamed
