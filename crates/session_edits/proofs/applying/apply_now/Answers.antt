use Rattle.machine.proofs.Resting.{edit_rests_later}
use Rattle.session_edits.proofs.applying.apply_now.Goals as goal

pub apply-requires-clause-rests : goal.apply-requires-clause-rests
apply-requires-clause-rests g c =
    rw c.in_ok-view.ensures.view (edit_rests_later g.A.RepoAccess.rules g.met.A.RepoAccess.keeps c.args.editor.now _ _ c.requires.rests c.look.ensures.later)
