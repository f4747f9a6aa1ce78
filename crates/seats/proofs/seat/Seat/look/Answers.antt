use Rattle.std.proofs.Common.{subst}
use Rattle.published.specs.{Events.{Known, point_of}, Moments.{GoesOn, stays}}
use Rattle.seats.proofs.seat.Seat.look.Goals as goal

pub returns-in-Err-clause-later : goal.returns-in-Err-clause-later
returns-in-Err-clause-later g c = subst (λ (k : Known). GoesOn (point_of k) (point_of c.self.inside.author)) c.self.view_is (stays (point_of c.self.inside.author))
