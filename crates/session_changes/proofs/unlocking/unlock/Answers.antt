use Rattle.svnpath.specs.Texts.{joined}
use Rattle.access.specs.Points.{content_of}
use Rattle.machine.specs.Commands.{UnlockStep}
use Rattle.session_replies.specs.Telling.{told_before}
use Rattle.session_replies.proofs.{Steps.{stepped, leads_behind, only_says}, Changes.stepped_is}
use Rattle.session_changes.specs.Asked.{UnlockAsked}
use Rattle.session_changes.proofs.Changes.{unlock_is, unlock_refused, fault_is}
use Rattle.session_changes.proofs.unlocking.unlock.Goals as goal

pub returns-in-Ok : goal.returns-in-Ok
returns-in-Ok g c =
    let env = c.args.turn.now.env in
    let client = c.args.client in
    let command = c.args.command.now in
    let asked = c.in-Ok.ensures in
    stepped_is g.A.RepoAccess.rules (told_before c.args.preface)
    (UnlockAsked env client c.in-Ok.ask)
    (UnlockStep env client command (joined client.path command.path))
    _ _ (unlock_is env client command c.in-Ok.ask (joined client.path command.path) asked.0 asked.1 asked.2)
    c.ask_unlock.result _ _ c.ask_unlock.ensures

pub returns-in_default : goal.returns-in_default
returns-in_default g c =
    let env = c.args.turn.now.env in
    let client = c.args.client in
    let command = c.args.command.now in
    let now = g.A.RepoAccess.point c.args.access.now in
    let found = joined client.path command.path in
    let is = fault_is found c.in-Err.fault c.in-Err.ensures c.in_default.not-NoMemory in
    let refused = rw c.path_refusal.ensures at c.refuse.ensures in
    let own = only_says {step = UnlockStep env client command found}
    (g.met.A.RepoAccess.stays now) (unlock_refused env client command found c.in-Err.fault is now.halted (content_of now)) in
    stepped (leads_behind (told_before c.args.preface) own) _ c.refuse.result _ refused
