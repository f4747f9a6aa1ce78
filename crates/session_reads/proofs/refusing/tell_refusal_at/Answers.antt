use Rattle.std.proofs.Common.{◌≡◌, rules}
use Rattle.session_reads.proofs.refusing.tell_refusal_at.Goals as goal

pub returns-in-Ok : goal.returns-in-Ok
returns-in-Ok g c =
    let copy : c.in-Ok.path ≡ c.args.path.now = search rules in
    rw (c.failure_at.ensures, copy) at c.say_new.ensures
