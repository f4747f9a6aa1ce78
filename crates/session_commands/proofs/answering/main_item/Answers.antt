use Rattle.std.proofs.Common.{refl}
use Rattle.items.specs.View.{value_of}
use Rattle.commands.specs.Commands.{main_command}
use Rattle.machine.proofs.Refusing.{bad, unknown}
use Rattle.session_replies.proofs.Steps.{stepped, only_says}
use Rattle.session_commands.proofs.answering.main_item.Goals as goal

pub returns-in-Ok : goal.returns-in-Ok
returns-in-Ok g c = rw c.in-Ok.ensures c.answer_or_ask_login.ensures

pub returns-in-Err-UnknownName : goal.returns-in-Err-UnknownName
returns-in-Err-UnknownName g c =
    rw (unknown (main_command c.args.client.is_of_today (value_of c.args.item.now)) (rw c.in-Err-UnknownName.field-0-is at c.in-Err-UnknownName.ensures))
    (stepped (only_says (g.met.A.RepoAccess.stays _) refl) _ c.refuse_unknown.result _ c.refuse_unknown.ensures)

pub returns-in-Err-BadParameters : goal.returns-in-Err-BadParameters
returns-in-Err-BadParameters g c =
    rw (bad (main_command c.args.client.is_of_today (value_of c.args.item.now)) (rw c.in-Err-BadParameters.field-0-is at c.in-Err-BadParameters.ensures))
    (stepped (only_says (g.met.A.RepoAccess.stays _) refl) _ c.end_malformed.result _ c.end_malformed.ensures)
