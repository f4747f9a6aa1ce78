-- Dates rise from the lower one on, and above the upper one none is dated up to the date.
use Rattle.std.proofs.Common.{◌≤◌, ◌-◌}
use Rattle.repo_api.specs.Dates.{IsUndatedSince}
use Rattle.shared_revisions.specs.Contents.{held_state}
use Rattle.shared_revisions.proofs.held.Held.dated_bound.Given as goal

abbrev pub invariant-loop-low : goal.invariant-loop-low
invariant-loop-low l =
    (l.self.rising_from ≤ l.low) × (l.top ≤ l.fn.revision)
    × IsUndatedSince (held_state l.self) l.date l.top l.fn.revision

abbrev pub decreases-loop-low : goal.decreases-loop-low
decreases-loop-low l = l.top - l.low
