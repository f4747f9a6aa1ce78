use Rattle.std.proofs.Common.{◌∙◌, refl, sym, true}
use Rattle.svnpath.specs.Texts.{joined}
use Rattle.machine.specs.Commands.{LockStep}
use Rattle.session_replies.specs.Telling.{told_before}
use Rattle.session_replies.proofs.Steps.{leads_behind, only_says, stepped}
use Rattle.session_changes.proofs.locking.lock.Goals as goal

pub returns-then-is_long_comment : goal.returns-then-is_long_comment
returns-then-is_long_comment g c =
    let client = c.args.client in
    let command = c.args.command.now in
    let now = g.A.RepoAccess.point c.args.access.now in
    let own = only_says {step = LockStep true c.args.turn.now.env client command (joined client.path command.path)} (g.met.A.RepoAccess.stays now) refl in
    rw (sym c.is_long_comment.ensures ∙ c.if-is_long_comment.true)
    (stepped (leads_behind (told_before c.args.preface) own) _ c.refuse.result _ c.refuse.ensures)

pub returns-else-is_long_comment : goal.returns-else-is_long_comment
returns-else-is_long_comment g c =
    rw (sym c.is_long_comment.ensures ∙ c.if-is_long_comment.false) c.lock_path.ensures
