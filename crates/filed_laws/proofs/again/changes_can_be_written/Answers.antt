use Rattle.filed_laws.proofs.Changing.{changes_fit}
use Rattle.filed_laws.proofs.again.changes_can_be_written.Goals as goal

pub returns : goal.returns
returns c = λ r written changes named e. changes_fit r written changes named e
