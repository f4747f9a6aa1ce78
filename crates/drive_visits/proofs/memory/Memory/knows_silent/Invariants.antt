use Rattle.std.proofs.Common.{◌≤◌, length}
use Rattle.drive_visits.proofs.memory.Memory.knows_silent.Given as goal

abbrev pub invariant-loop-index : goal.invariant-loop-index
invariant-loop-index g l = (l.index ≤ length l.self.silent.items) × (l.compared ≤ 64)

abbrev pub decreases-loop-index : goal.decreases-loop-index
decreases-loop-index g l = l.index
