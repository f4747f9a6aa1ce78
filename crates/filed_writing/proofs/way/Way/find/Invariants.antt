use Rattle.std.proofs.Common.{◌≡◌, ◌≤◌, ◌+◌, ◌-◌, length}
use Rattle.filed_writing.specs.Trails.{IsWay}
use Rattle.filed_writing.proofs.way.Way.find.Given as goal

abbrev pub invariant-loop-self : goal.invariant-loop-self
invariant-loop-self l =
    IsWay l.revision l.self × (l.self.path.now ≡ l.path) × (length l.self.ids.items ≤ length l.path + 1)

abbrev pub decreases-loop-self : goal.decreases-loop-self
decreases-loop-self l = (length l.path + 1) - length l.self.ids.items
