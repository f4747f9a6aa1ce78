use Rattle.access.proofs.InMemory.{path_stays}
use Rattle.access.proofs.handed.commit_with_path.Goals as goal

pub returns-in-Err-commit_and_release-clause-path : goal.returns-in-Err-commit_and_release-clause-path
returns-in-Err-commit_and_release-clause-path g c =
    path_stays (g.R.Repository.content c.args.repository.now) (g.R.Repository.content c.commit_and_release.new.repository) c.args.ask
    (g.R.Repository.txn_state c.args.txn) c.in-Ok.path c.in-Err-commit_and_release.reason c.in-Err-commit_and_release.ensures c.in-Ok.ensures
