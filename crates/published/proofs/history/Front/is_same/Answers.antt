use Rattle.std.proofs.Common.{refl, ap, subst, List}
use mathlib.Core.List.{IsPrefix}
use Rattle.published.specs.Events.{Event}
use Rattle.published.proofs.Fronts.{same}
use Rattle.published.proofs.history.Front.is_same.Goals as goal

pub returns : goal.returns
returns g c =
    let both = c.learn.new.self.log in
    let this : IsPrefix c.self.inside.seen.log both = subst (λ (l : List Event). IsPrefix l both) (ap (λ s. s.log) c.again-both.ensures) c.learn.ensures.2 in
    rw (c.self.invariant.0, c.other.invariant.0, ← c.self.view_is, ← c.other.view_is) (same c.self.inside.seen.log c.other.inside.seen.log both this c.learn.ensures.3 _ refl)
