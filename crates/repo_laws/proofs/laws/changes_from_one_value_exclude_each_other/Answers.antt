use Rattle.repo_laws.proofs.PropertyChanges.{refused_after}
use Rattle.repo_laws.proofs.laws.changes_from_one_value_exclude_each_other.Goals as goal

pub returns : goal.returns
returns c = refused_after
