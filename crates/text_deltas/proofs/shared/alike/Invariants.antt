use Rattle.std.proofs.Common.{length, ◌-◌, ◌≡◌, drop, ◌+◌}
use Rattle.text_deltas.specs.Alike.{alike}
use Rattle.text_deltas.proofs.shared.alike.Given as goal

abbrev pub invariant-loop-count : goal.invariant-loop-count
invariant-loop-count l = l.count + alike (drop l.count l.before) (drop l.count l.text) ≡ alike l.before l.text

abbrev pub decreases-loop-count : goal.decreases-loop-count
decreases-loop-count l = length l.before - l.count
