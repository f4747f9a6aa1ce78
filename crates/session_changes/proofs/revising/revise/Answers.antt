use Rattle.std.proofs.Common.{sym}
use Rattle.session_changes.proofs.revising.revise.Goals as goal

pub returns-in-Ok : goal.returns-in-Ok
returns-in-Ok g c =
    rw (sym c.in-Ok.ensures.cases) c.ask_change.ensures
