use Rattle.std.proofs.Common.{◌≡◌, length}
use Rattle.keepers.proofs.Seats.{AreNumbered}
use Rattle.keepers.proofs.keeper.seat_all.Given as goal

abbrev pub invariant-loop : goal.invariant-loop
invariant-loop g l =
    (l.authors.next ≡ length l.all.items) × (l.authors.list ≡ l.fn.authors.list) × AreNumbered l.all.items l.authors.list
