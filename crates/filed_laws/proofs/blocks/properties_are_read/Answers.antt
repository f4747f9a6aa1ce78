use Rattle.filed_laws.proofs.Properties.{properties_again}
use Rattle.filed_laws.proofs.blocks.properties_are_read.Goals as goal

pub returns : goal.returns
returns c = λ list fit short. properties_again list fit short
