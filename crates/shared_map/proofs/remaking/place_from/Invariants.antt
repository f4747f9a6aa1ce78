use Rattle.std.proofs.Common.{◌-◌, length}
use Rattle.shared_map.proofs.remaking.place_from.Given as goal

abbrev pub decreases-loop-at : goal.decreases-loop-at
decreases-loop-at g l = length l.part - l.at
