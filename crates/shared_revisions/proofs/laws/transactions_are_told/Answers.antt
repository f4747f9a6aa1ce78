use Rattle.shared_revisions.proofs.Telling.{sound_told}
use Rattle.shared_revisions.proofs.laws.transactions_are_told.Goals as goal

pub returns : goal.returns
returns c = sound_told
