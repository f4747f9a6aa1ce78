use Rattle.repo_laws.proofs.LockChanges.{same_otherwise}
use Rattle.repo_laws.proofs.laws.changes_of_properties_keep_revisions.Goals as goal

pub returns : goal.returns
returns c = same_otherwise
