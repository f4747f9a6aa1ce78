use Rattle.std.specs.{Prelude.{◌≡◌, ◌++◌, map}, Vec.Iter.into_iter_items}
use Rattle.serving.proofs.desks.desks_at.Given as goal

abbrev pub invariant-loop-seat : goal.invariant-loop-seat
invariant-loop-seat g l =
    (goal.iterator-loop-seat g).can_next l.seat-iterator
    × (goal.iterator-loop-seat g).is_finite l.seat-iterator
    × (map (λ d. d.seat) l.desks.items ++ into_iter_items l.seat-iterator ≡ l.fn.seats.items)
