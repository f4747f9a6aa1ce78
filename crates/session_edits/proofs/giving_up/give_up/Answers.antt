use Rattle.std.proofs.Common.{rules}
use Rattle.session_edits.proofs.giving_up.give_up.Goals as goal

pub returns : goal.returns
returns g c =
    let said = rw c.failure_at-failure.ensures at c.say_new-said.ensures in
    search rules
