use Rattle.reporter.proofs.Deciding.{all_trees_hold}
use Rattle.drive_sides.proofs.two_trees.TwoTrees.new.Goals as goal

pub invariant_of-result : goal.invariant_of-result
invariant_of-result g c = record { together = all_trees_hold _ c.requires }
