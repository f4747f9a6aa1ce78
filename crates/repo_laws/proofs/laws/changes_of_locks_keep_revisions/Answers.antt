use Rattle.repo_laws.proofs.LockChanges.{same_revisions}
use Rattle.repo_laws.proofs.laws.changes_of_locks_keep_revisions.Goals as goal

pub returns : goal.returns
returns c = same_revisions
