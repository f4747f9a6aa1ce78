use Rattle.history.proofs.Along.{none_known}
use Rattle.history.proofs.gathering.Known.none.Goals as goal

pub returns : goal.returns
returns c = λ h at.
    record { back = λ n o is. absurd (none_known c.new.result.entries n o c.new.ensures.empty is); on = λ n o is. absurd (none_known c.new-2.result.entries n o c.new-2.ensures.empty is) }
