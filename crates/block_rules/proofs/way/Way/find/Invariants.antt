use Rattle.std.proofs.Common.{◌≡◌, ◌≤◌, ◌+◌, ◌-◌, length}
use Rattle.block_rules.specs.Ways.{IsWay}
use Rattle.block_rules.proofs.way.Way.find.Given as goal

abbrev pub invariant-loop-self : goal.invariant-loop-self
invariant-loop-self l =
    IsWay l.tree l.self × (l.self.path.now ≡ l.path) × (length l.self.ids.items ≤ length l.path + 1)

abbrev pub decreases-loop-self : goal.decreases-loop-self
decreases-loop-self l = (length l.path + 1) - length l.self.ids.items
