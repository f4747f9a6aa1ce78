use Rattle.machine.proofs.Sound.{finished_rests, finished_sound}
use Rattle.session_replies.proofs.Steps.{stepped, unparted}
use Rattle.session_commits.proofs.Edits.{closes_by}
use Rattle.session_commits.proofs.edit.commit_edit.Goals as goal

pub commit-requires : goal.commit-requires
commit-requires g c =
    let sound = finished_sound c.args.edit.editor _ c.requires.sound c.in-Ok.ensures in
    (finished_rests _ c.args.edit.editor _ c.requires.rests c.in-Ok.ensures, sound.0, sound.2)

pub returns-in-Ok : goal.returns-in-Ok
returns-in-Ok g c = rw c.in-Ok.ensures c.commit.ensures

pub returns-in-Err : goal.returns-in-Err
returns-in-Err g c =
    unparted _ _ _ _ _ _ _ _ (stepped (closes_by _ _ c.args.edit _ _ (g.met.A.RepoAccess.stays _) c.in-Err.ensures) _ c.refuse.result _ c.refuse.ensures)
