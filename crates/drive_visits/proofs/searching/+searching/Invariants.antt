use Rattle.std.proofs.Common.{◌+◌, ◌*◌, ◌-◌, length, take}
use Rattle.drive_visits.specs.{Knowing.{AreSilentKnown, paths_of}, Remembered.IfRemembers}
use Rattle.drive_visits.proofs.Reasons.{SaysNothing}
use Rattle.drive_visits.proofs.searching.+searching.Given as goal

abbrev pub decreases-is_named : goal.decreases-is_named
decreases-is_named g l = 4 * (g.S.Sides.bound l.sides.now + 1 - length l.place.now.path) + 3

abbrev pub decreases-has_news : goal.decreases-has_news
decreases-has_news g l = 4 * (g.S.Sides.bound l.sides.now + 1 - length l.place.now.path) + 2

abbrev pub decreases-has_new_news : goal.decreases-has_new_news
decreases-has_new_news g l = 4 * (g.S.Sides.bound l.sides.now + 1 - length l.place.now.path) + 1

abbrev pub decreases-has_news_below : goal.decreases-has_news_below
decreases-has_news_below g l = 4 * (g.S.Sides.bound l.sides.now + 1 - length l.place.now.path)

-- what is remembered is so, if it was before, and nothing is said so far; and what is remembered is known
abbrev pub invariant-has_news_below-loop-child : goal.invariant-has_news_below-loop-child
invariant-has_news_below-loop-child g l =
    IfRemembers (g.S.Sides.trees l.sides) l.fn.memory l.memory (SaysNothing (g.S.Sides.trees l.sides) (paths_of (take l.child-index l.child-items)))
    × AreSilentKnown (g.S.Sides.knows l.sides) l.memory
