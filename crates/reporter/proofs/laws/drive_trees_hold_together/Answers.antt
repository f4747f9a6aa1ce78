use Rattle.reporter.proofs.Drives.{both_hold}
use Rattle.reporter.proofs.laws.drive_trees_hold_together.Goals as goal

pub returns : goal.returns
returns c = both_hold
