use Rattle.std.proofs.Common.{refl, inl}
use Rattle.items.specs.View.{value_of}
use Rattle.wire_edits.specs.Editing.{editor_command}
use Rattle.machine.proofs.Refusing.{bad, unknown}
use Rattle.session_replies.proofs.Steps.{stepped, only_says, unparted}
use Rattle.session_commits.proofs.edit.edit_input.Goals as goal

pub returns-in-Ok : goal.returns-in-Ok
returns-in-Ok g c = rw c.in-Ok.ensures c.edit_command-phase.ensures

pub returns-in-Err-UnknownName : goal.returns-in-Err-UnknownName
returns-in-Err-UnknownName g c =
    rw (unknown (editor_command (value_of c.args.item.now)) (rw c.in-Err-UnknownName.field-0-is at c.in-Err-UnknownName.ensures))
    (unparted _ _ _ _ _ _ _ _ (stepped (only_says (g.met.A.RepoAccess.stays _) refl) _ c.give_up.result _ c.give_up.ensures))

pub returns-in-Err-BadParameters : goal.returns-in-Err-BadParameters
returns-in-Err-BadParameters g c =
    rw (bad (editor_command (value_of c.args.item.now)) (rw c.in-Err-BadParameters.field-0-is at c.in-Err-BadParameters.ensures))
    (unparted _ _ _ _ _ _ _ _ (stepped (only_says (g.met.A.RepoAccess.stays _) refl) _ c.end_malformed.result _ c.end_malformed.ensures))

pub returns-in-Err-NoMemory : goal.returns-in-Err-NoMemory
returns-in-Err-NoMemory g c =
    inl (inl (g.met.A.RepoAccess.stays _, g.met.S.ReplySink.nothing c.args.turn.now.out))
