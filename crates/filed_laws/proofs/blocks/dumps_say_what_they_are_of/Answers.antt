use Rattle.filed_laws.proofs.Dumps.{same_dump}
use Rattle.filed_laws.proofs.blocks.dumps_say_what_they_are_of.Goals as goal

pub returns : goal.returns
returns c = λ pairs others e. same_dump pairs others e
