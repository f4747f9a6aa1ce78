use Rattle.drive_rules.proofs.Trees.{tree_holds}
use Rattle.drive_rules.proofs.laws.trees_hold_together.Goals as goal

pub returns : goal.returns
returns c = tree_holds
