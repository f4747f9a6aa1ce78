use Rattle.reporter.proofs.Holding.{all_hold}
use Rattle.reporter.proofs.laws.reported_trees_hold_together.Goals as goal

pub returns : goal.returns
returns c = all_hold
