use Rattle.filed_laws.proofs.Judged.{no_sources}
use Rattle.filed_laws.proofs.judging.a_revision_without_changes_copies_nothing.Goals as goal

pub returns : goal.returns
returns c = λ r none. no_sources r none
