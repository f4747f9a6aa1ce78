use Rattle.repo_laws.proofs.Alone.{no_conflict_alone, merged_alone}
use Rattle.repo_laws.proofs.laws.merges_with_the_base.Goals as goal

pub returns-clause-clean : goal.returns-clause-clean
returns-clause-clean c = no_conflict_alone

pub returns-clause-sealed : goal.returns-clause-sealed
returns-clause-sealed c = λ trees n base txn w. merged_alone trees n base txn w
