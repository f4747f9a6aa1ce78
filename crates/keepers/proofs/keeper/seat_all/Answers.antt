use Rattle.std.proofs.Common.{◌≡◌, ◌+◌, ◌∷◌, ◌++◌, [], List, length, arith, length-append, ap, sym, subst, ◌∙◌}
use Rattle.published.specs.{Authors.Roll, Events.{Event, Known, knowing}}
use Rattle.keepers.proofs.Seats.{AreNumbered, numbered_more}
use Rattle.keepers.proofs.keeper.seat_all.Goals as goal

pub loop-preserved : goal.loop-preserved
loop-preserved g c =
    let is = c.in_ok-seat.ensures in
    let xs = c.loop.all.items in
    let items : c.push.new.self.items ≡ xs ++ c.in_ok-seat.seat ∷ [] = c.in_ok-push.ensures.items in
    let long : length c.push.new.self.items ≡ length (xs ++ c.in_ok-seat.seat ∷ []) = ap (λ l. length l) items in
    let next : c.seat_at.new.authors.next ≡ c.loop.authors.next + 1 = ap (λ (r : Roll). r.next) is.1 in
    let same : c.seat_at.new.authors.list ≡ c.loop.authors.list = ap (λ (r : Roll). r.list) is.1 in
    let counted : c.loop.authors.next ≡ length xs = c.loop.invariant.0 in (
      omega (arith, next, counted, long, length-append xs (c.in_ok-seat.seat ∷ [])),
      same ∙ c.loop.invariant.1,
      subst (λ (l : List Event). AreNumbered c.push.new.self.items l) (sym same)
          (subst (λ (ss : List Known). AreNumbered ss c.loop.authors.list) (sym items)
          (numbered_more xs c.in_ok-seat.seat c.loop.authors.list c.loop.invariant.2 (is.0 ∙ ap (λ m. knowing m c.loop.authors.list) counted))),
    )
