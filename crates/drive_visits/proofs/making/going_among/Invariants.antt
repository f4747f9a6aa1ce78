use Rattle.std.proofs.Common.{◌≡◌, take}
use Rattle.drive_visits.specs.{Knowing.paths_of, Walks.going}
use Rattle.drive_visits.proofs.making.going_among.Given as goal

abbrev pub invariant-loop-place : goal.invariant-loop-place
invariant-loop-place g l =
    l.paths.items ≡ going (g.S.Sides.trees l.sides).apart (g.S.Sides.trees l.sides).old (g.S.Sides.trees l.sides).new (paths_of (take l.place-index l.places))
