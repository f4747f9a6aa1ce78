-- What the commands of a report are answered, and the client's answer to a drive.
use Rattle.std.specs.Prelude.{◌≡◌, Bool, true, false, List, [], ◌∷◌, map, Option, Some, None}
use Rattle.items.specs.Values.{ItemValue}
use Rattle.refusals.specs.declared.Refusal.TheVariants as refusals
use Rattle.repo_api.specs.States.{RepoState}
use Rattle.wire_edits.specs.declared.editing.EditorCommand.TheVariants as edits
use Rattle.wire_replies.specs.{declared.failures.FailureLink.FailureLink, declared.reply.Reply.Reply}
use Rattle.wire_replies.specs.declared.reply.Reply.TheVariants as replies
use Rattle.reporter.specs.{declared.graft.Graft.Graft, Reporting.{Drawn, ReportStep}, Reporting.Drawn.{GoesOn, GivenUp, Fails, Drives, Malformed}}
use Rattle.reporter.specs.{declared.answering.ClientAnswer.ClientAnswer, declared.answering.ClientAnswer.TheVariants.Taken}
use Rattle.reporter.specs.declared.answering.ClientAnswer.TheVariants as answers
use Rattle.machine.specs.{Settings.Settings, Answers.{Answer, Step, says, serves, failure_at, malformed}, declared.env.Env.Env, declared.phase.Client.Client}
use Rattle.machine.specs.{declared.phase.OpenReporting.OpenReporting, declared.phase.Phase.TheVariants.{Serving, Reporting, Driven}}

-- a report, as the machine has it
abbrev pub MachineReport : Type 0
MachineReport = OpenReporting (List Graft)

-- what a command of a report draws, as an answer
abbrev pub drawn_answer : Env → Client → Drawn → Answer
drawn_answer env client (GoesOn report) =
    says env (Reporting (record { client = client; report = report })) []
drawn_answer env client GivenUp = says env (Serving client) []
drawn_answer env client (Fails r path) =
    says env (Serving client) (replies.NoLogin ∷ failure_at client.is_of_today r path ∷ [])
drawn_answer env client (Drives drive) =
    says env (Driven client) (replies.NoLogin ∷ map replies.Edit drive)
drawn_answer env client Malformed = malformed env

-- what may be drawn, as a step
abbrev pub Draws : Env → Client → (RepoState → Drawn → Type 0) → Step
Draws env client MayDraw halted c a = (d : Drawn) × MayDraw c d × (a ≡ drawn_answer env client d)

-- a command of a report
abbrev pub ReportingStep : Settings → Env → MachineReport → ItemValue → Step
ReportingStep s env reporting item =
    Draws env reporting.client (ReportStep s.name reporting.report item)

-- the failure that a client is sent after it gave a drive up: one of today gets its own links back,
-- if there are any
abbrev pub drive_failure : Bool → List FailureLink → Reply
drive_failure true (link ∷ links) = replies.Failures (link ∷ links)
drive_failure true [] = replies.Failure refusals.EditAborted None
drive_failure false links = replies.Failure refusals.EditAborted None

-- the client's answer to a drive: it was taken, or the drive is given up
abbrev pub driven_answer : Env → Client → Option ClientAnswer → Answer
driven_answer env client None = malformed env
driven_answer env client (Some Taken) = serves env client replies.Success
driven_answer env client (Some (answers.GivenUp links)) =
    says env (Serving client)
    (replies.Edit edits.AbortEdit ∷ drive_failure client.is_of_today links ∷ [])
