use Rattle.filed_laws.proofs.{Fitting.here_fit, Whole.all_named}
use Rattle.filed_laws.proofs.again.node_revisions_can_be_written.Goals as goal

pub returns : goal.returns
returns c = λ r ids pieces right facts e bound. here_fit r ids pieces facts (all_named r right) e bound
