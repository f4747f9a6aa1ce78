use Rattle.std.proofs.Common.{◌-◌, ◌≡◌, ◌≤◌, drop, ◌+◌}
use Rattle.text_deltas.specs.Alike.{alike}
use Rattle.text_deltas.proofs.shared.alike_in_groups.Given as goal

abbrev pub invariant-loop-count : goal.invariant-loop-count
invariant-loop-count l =
    (l.count ≤ l.both)
    × (l.count + alike (drop l.count l.before) (drop l.count l.text) ≡ alike l.before l.text)

abbrev pub decreases-loop-count : goal.decreases-loop-count
decreases-loop-count l = l.both - l.count
