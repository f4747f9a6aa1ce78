use Rattle.repo_laws.proofs.Revisions.{accepted_meets}
use Rattle.repo_laws.proofs.laws.accepted_commits_meet_well.Goals as goal

pub returns : goal.returns
returns c = accepted_meets
