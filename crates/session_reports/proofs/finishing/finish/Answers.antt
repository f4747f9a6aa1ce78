use Rattle.std.proofs.Common.{[], Some, refl}
use Rattle.reporter.specs.{Reporting.Drawn.Fails, Reporting.EndStep}
use Rattle.machine.specs.Reports.{drawn_answer, Draws}
use Rattle.session_replies.proofs.Steps.{told_all, said, behind_answered}
use Rattle.session_reports.proofs.Drawing.{drives, fails, lost}
use Rattle.session_reports.proofs.finishing.finish.Goals as goal

pub returns-in-Ok : goal.returns-in-Ok
returns-in-Ok g c =
    let d = c.in-Ok.ensures.1 in
    told_all (drives _ _ _ c.args.errand.report c.say_drive_now.ensures.0 (g.met.A.RepoAccess.sound _ _ c.say_drive_now.ensures.0 c.requires.trees).0
    d.0 d.2.0 d.1 d.2.1) _ _ _ (record { phase_after = refl; env_after = refl; written = d.2.2 })

pub returns-in-Err-Refused : goal.returns-in-Err-Refused
returns-in-Err-Refused g c =
    let env = c.args.turn.now.env in
    let client = c.args.errand.client in
    let report = c.args.errand.report in
    let r = c.in-Err-Refused.refusal in
    let rules = g.A.RepoAccess.rules in
    let p = g.A.RepoAccess.point c.args.access.now in
    let q = g.A.RepoAccess.point c.say_drive_now.new.access in
    let later = c.say_drive_now.ensures.0 in
    let unanswered = rw c.in-Err-Refused.field-0-is at c.in-Err-Refused.ensures.1 in
    let step = Draws env client (EndStep report) in
    let a = drawn_answer env client (Fails r (Some report.ask.goal)) in
    let is = fails rules env client report later (g.met.A.RepoAccess.sound p q later c.requires.trees).0 r unanswered.0 in
    let further = g.met.S.ReplySink.more in
    let told = rw c.goal_of-goal.ensures at c.tell_refused.ensures in
    said rules step p q a later is refl _ c.tell_refused.result _ (behind_answered _ further c.tell_refused.result [] a _ _ _ _ unanswered.1 told)

pub returns-in-Err-NoMemory : goal.returns-in-Err-NoMemory
returns-in-Err-NoMemory g c =
    lost _ _ _ c.args.errand.report c.say_drive_now.ensures.0 (g.met.A.RepoAccess.sound _ _ c.say_drive_now.ensures.0 c.requires.trees).0 _ (rw c.in-Err-NoMemory.field-0-is at c.in-Err-NoMemory.ensures.1)
