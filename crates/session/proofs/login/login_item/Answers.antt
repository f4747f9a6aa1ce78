use Rattle.std.proofs.Common.{refl}
use Rattle.items.specs.View.{value_of}
use Rattle.commands.specs.Logins.{auth_response}
use Rattle.machine.proofs.Refusing.{bad, unknown}
use Rattle.session_replies.proofs.Steps.{only_says, stepped}
use Rattle.session.proofs.login.login_item.Goals as goal

pub returns-in-Ok : goal.returns-in-Ok
returns-in-Ok g c = rw c.in-Ok.ensures c.choose_mechanism.ensures

pub returns-in-Err-UnknownName : goal.returns-in-Err-UnknownName
returns-in-Err-UnknownName g c =
    rw (unknown (auth_response (value_of c.args.item.now)) (rw c.in-Err-UnknownName.field-0-is at c.in-Err-UnknownName.ensures))
    (stepped (only_says (g.met.A.RepoAccess.stays _) refl) _ c.end_login.result _ c.end_login.ensures)

pub returns-in-Err-BadParameters : goal.returns-in-Err-BadParameters
returns-in-Err-BadParameters g c =
    rw (bad (auth_response (value_of c.args.item.now)) (rw c.in-Err-BadParameters.field-0-is at c.in-Err-BadParameters.ensures))
    (stepped (only_says (g.met.A.RepoAccess.stays _) refl) _ c.end_login-in-Err-BadParameters.result _ c.end_login-in-Err-BadParameters.ensures)
