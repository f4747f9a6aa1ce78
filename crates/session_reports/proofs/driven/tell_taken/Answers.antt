use Rattle.std.proofs.Common.{refl}
use Rattle.session_reports.proofs.driven.tell_taken.Goals as goal

pub returns : goal.returns
returns g c =
    c.tell.ensures _ refl
