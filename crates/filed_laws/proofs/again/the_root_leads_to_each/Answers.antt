use Rattle.filed_laws.proofs.Whole.{here_reached}
use Rattle.filed_laws.proofs.again.the_root_leads_to_each.Goals as goal

pub returns : goal.returns
returns c = λ r ids pieces root right earlier facts e bound is. here_reached r ids pieces right earlier facts e bound root is
