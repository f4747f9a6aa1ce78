use Rattle.filed_laws.proofs.Changed.{said_again}
use Rattle.filed_laws.proofs.blocks.changes_are_read.Goals as goal

pub returns : goal.returns
returns c = λ r written changes list right said is. said_again r written changes list right said is
