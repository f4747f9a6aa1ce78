use Rattle.std.proofs.Common.{[], None, refl, sym, ◌∙◌}
use Rattle.svnpath.specs.Urls.{path_of_text}
use Rattle.refusals.specs.declared.Refusal.TheVariants as refusals
use Rattle.wire_replies.specs.declared.reply.Reply.TheVariants as replies
use Rattle.access.specs.Points.{content_of}
use Rattle.machine.specs.{Answers.{says, serves}, Commands.{asked_by, commit_begins, drive_ask, lock_tokens, reparented}}
use Rattle.machine.specs.declared.phase.Phase.TheVariants.{Serving}
use Rattle.reporter.specs.Refusing.{begun_report}
use Rattle.session_commands.proofs.Answered.{begins, moves, answered, opened}
use Rattle.session_replies.specs.Telling.{told_before}
use Rattle.session_commands.proofs.own.own_answer.Goals as goal

pub returns-in-Read : goal.returns-in-Read
returns-in-Read g c = rw c.in-Read.is c.tell_read.ensures

pub returns-in-Drive : goal.returns-in-Drive
returns-in-Drive g c =
    let now = content_of (g.A.RepoAccess.point c.begun_report-report.new.access) in
    let report = begun_report (drive_ask now c.args.client.is_of_today c.args.options.now.name c.args.client.path c.in-Drive.command) in
    rw c.in-Drive.is
    (opened _ _ (told_before c.args.request.preface) c.begun_report-report.ensures.0 c.args.turn.now.env c.args.client report refl
    _ c.begun_report-report.result c.open_report.result _ c.begun_report-report.ensures.1 c.open_report.ensures)

pub returns-in-Commit : goal.returns-in-Commit
returns-in-Commit g c =
    let s = c.args.options.now in
    let env = c.args.turn.now.env in
    let asked = asked_by c.in-Commit.commit (lock_tokens c.args.client.path c.in-Commit.commit.tokens) in
    rw c.in-Commit.is
    (answered _ _ (told_before c.args.request.preface) (g.met.A.RepoAccess.stays _) (commit_begins s env c.args.client asked) refl (begins s env c.args.client asked)
    _ c.begin_commit.result _ c.begin_commit.ensures)

pub returns-in-AbortEdit : goal.returns-in-AbortEdit
returns-in-AbortEdit g c =
    rw c.in-AbortEdit.is
    (answered _ _ (told_before c.args.request.preface) (g.met.A.RepoAccess.stays _) (says c.args.turn.now.env (Serving c.args.client) []) refl refl
    _ c.tell_preface.result _ c.tell_preface.ensures)

pub returns-in-Lock : goal.returns-in-Lock
returns-in-Lock g c = rw c.in-Lock.is c.lock.ensures

pub returns-in-Unlock : goal.returns-in-Unlock
returns-in-Unlock g c = rw c.in-Unlock.is c.unlock.ensures

pub returns-then-has_revprops : goal.returns-then-has_revprops
returns-then-has_revprops g c =
    rw c.in-ChangeRevProp.is (rw (sym c.has_revprops.ensures ∙ c.if-has_revprops.true) c.set_rev_prop.ensures)

pub returns-else-has_revprops : goal.returns-else-has_revprops
returns-else-has_revprops g c =
    rw c.in-ChangeRevProp.is (rw (sym c.has_revprops.ensures ∙ c.if-has_revprops.false)
    (answered _ _ (told_before c.args.request.preface) (g.met.A.RepoAccess.stays _) (serves c.args.turn.now.env c.args.client (replies.Failure refusals.RevisionPropertiesClosed None)) refl refl
    _ c.refuse.result _ c.refuse.ensures))

pub returns-in-Reparent : goal.returns-in-Reparent
returns-in-Reparent g c =
    let path = path_of_text c.in-Reparent.url c.args.options.now.name in
    rw c.in-Reparent.is
    (answered _ _ (told_before c.args.request.preface) (g.met.A.RepoAccess.stays _) (reparented c.args.turn.now.env c.args.client path) refl (moves c.args.turn.now.env c.args.client path)
    _ c.reparent.result _ c.reparent.ensures)
