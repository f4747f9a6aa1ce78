use Rattle.filed_laws.proofs.Made.{here_placed}
use Rattle.filed_laws.proofs.again.node_revisions_are_where_they_say.Goals as goal

pub returns : goal.returns
returns c = λ r ids pieces e. here_placed r ids pieces e
