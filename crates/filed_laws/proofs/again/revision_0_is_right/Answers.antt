use Rattle.filed_laws.proofs.Opening.{first_right}
use Rattle.filed_laws.proofs.again.revision_0_is_right.Goals as goal

pub returns : goal.returns
returns c = λ r opening number tables changes. first_right r opening number tables changes
