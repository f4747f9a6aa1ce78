use Rattle.filed_laws.proofs.Said.{tabled_fit}
use Rattle.filed_laws.proofs.again.what_is_tabled_can_be_written.Goals as goal

pub returns : goal.returns
returns c = λ files blocks tables changes all. tabled_fit files blocks tables changes all
