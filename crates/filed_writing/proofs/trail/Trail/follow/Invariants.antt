use Rattle.std.proofs.Common.{◌≡◌, ◌≤◌, ◌+◌, ◌-◌, length}
use Rattle.filed_writing.specs.Trails.{IsTrail}
use Rattle.filed_writing.proofs.trail.Trail.follow.Given as goal

abbrev pub invariant-loop-self : goal.invariant-loop-self
invariant-loop-self l =
    IsTrail l.revision l.self × (l.self.way.path.now ≡ l.path) × (length l.self.way.ids.items ≤ length l.path + 1)

abbrev pub decreases-loop-self : goal.decreases-loop-self
decreases-loop-self l = (length l.path + 1) - length l.self.way.ids.items
