use Rattle.std.proofs.Common.{◌-◌, length}
use Rattle.shared_map.proofs.comparing.place_from.Given as goal

abbrev pub decreases-loop-at : goal.decreases-loop-at
decreases-loop-at g l = length l.others - l.at
