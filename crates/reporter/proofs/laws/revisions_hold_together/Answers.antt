use Rattle.reporter.proofs.Deciding.{all_trees_hold}
use Rattle.reporter.proofs.laws.revisions_hold_together.Goals as goal

pub returns : goal.returns
returns c = all_trees_hold
