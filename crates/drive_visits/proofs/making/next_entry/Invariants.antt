-- Nothing that goes is left, what is left and what is remembered is known, and, if what was remembered was so, then what is remembered is, and what is left now may follow what was left before.
use Rattle.std.proofs.Common.{◌≡◌, List, [], length}
use Rattle.drive_visits.specs.{Knowing.{AreLeftKnown, AreSilentKnown}, Left.IsLeftIn, Remembered.IfRemembers, Visits.Visit}
use Rattle.drive_visits.proofs.making.next_entry.Given as goal

abbrev pub invariant-loop-path : goal.invariant-loop-path
invariant-loop-path g l =
    (l.here.deletes.items ≡ [])
    × IfRemembers (g.S.Sides.trees l.sides) l.fn.memory l.memory ((vs : List Visit) → IsLeftIn (g.S.Sides.trees l.sides) l.here vs → IsLeftIn (g.S.Sides.trees l.sides) l.fn.here vs)
    × AreLeftKnown (g.S.Sides.knows l.sides) l.here
    × AreSilentKnown (g.S.Sides.knows l.sides) l.memory

abbrev pub decreases-loop-path : goal.decreases-loop-path
decreases-loop-path g l = length l.here.entries.items
