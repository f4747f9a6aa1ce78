use Rattle.shared_revisions.proofs.Beginning.{same_trees}
use Rattle.shared_revisions.proofs.laws.beginnings_show_the_same.Goals as goal

pub returns : goal.returns
returns c = same_trees
