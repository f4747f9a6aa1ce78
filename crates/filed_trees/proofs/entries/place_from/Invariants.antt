use Rattle.std.proofs.Common.{length, ◌-◌}
use Rattle.filed_trees.proofs.entries.place_from.Given as goal

abbrev pub decreases-loop-at : goal.decreases-loop-at
decreases-loop-at l = length l.entries - l.at
