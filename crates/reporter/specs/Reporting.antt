-- What the commands of a report draw.
use Rattle.std.specs.Prelude.{◌≡◌, ℕ, List, [], ◌∷◌, Option, Some, None, unwrap_or, Result, Ok, Err, codes, if◌then◌else◌}
use Rattle.items.specs.Values.{ItemValue, ItemValues, more, none}
use Rattle.svnpath.specs.Paths.{PathValue}
use Rattle.refusals.specs.declared.Refusal.{Refusal}
use Rattle.refusals.specs.declared.Refusal.TheVariants as refusals
use Rattle.repo_api.specs.{Soundness.AreTrees, States.RepoState}
use Rattle.wire_forms.specs.{Forms.{◌>>=◌, is_name, items_in, number_first, string_first, command_form}, declared.fault.CommandFault.CommandFault}
use Rattle.wire_forms.specs.declared.fault.CommandFault.TheVariants.{UnknownName, BadParameters, NoMemory}
use Rattle.wire_edits.specs.declared.editing.EditorCommand.{EditorCommand}
use Rattle.wire_reports.specs.{Reporting.{report_command, name_of}, declared.report.ReportCommand.ReportCommand}
use Rattle.wire_reports.specs.declared.report.ReportCommand.TheVariants.{SetPath, DeletePath, LinkPath, FinishReport, AbortReport}
use Rattle.wire_reports.specs.declared.report.ReportName.{ReportName}
use Rattle.wire_reports.specs.declared.report.ReportName.TheVariants as names
use Rattle.reporter.specs.{Refusing.{OpenState, ReportState, set_path_report, delete_path_report, finish_answer}, Targets.WholeReport}
use Rattle.reporter.specs.{declared.report.Report.TheVariants.{Refused, Open}, Sent.IsDrive, declared.answering.ClientAnswer.ClientAnswer}
use Rattle.reporter.specs.declared.answering.ClientAnswer.TheVariants.{Taken}
use Rattle.wire_replies.specs.declared.failures.FailureLink.{FailureLink}
use Rattle.reporter.specs.declared.answering.ClientAnswer.TheVariants as answers

-- What a command of a report draws: nothing yet; nothing, and the report is given up; a failure,
-- with the path at which the report is refused, if it is at one; a drive, whose answer is awaited; or
-- a failure that ends the session. A request of a login that asks for nothing stands before a failure
-- and before a drive.
pub data Drawn : Type 0 where
  GoesOn : ReportState → Drawn
  GivenUp : Drawn
  Fails : Refusal → Option PathValue → Drawn
  Drives : List EditorCommand → Drawn
  Malformed : Drawn

-- the end of a report to a goal, over a repository each of whose trees is a tree: its refusal, at the
-- goal, or a drive that may be sent
abbrev pub Finishes : RepoState → PathValue → Result WholeReport Refusal → Drawn → Type 0
Finishes c goal (Err r) d = d ≡ Fails r (Some goal)
Finishes c goal (Ok report) d =
    (drive : List EditorCommand) × (d ≡ Drives drive) × AreTrees c.revisions
    × IsDrive c report drive

-- the end of a report, by what it comes to
abbrev pub EndStep : OpenState → RepoState → Drawn → Type 0
EndStep report c d = Finishes c report.ask.goal (finish_answer c (Open report)) d

-- a command of a report that goes on
abbrev pub OpenStep : List ℕ → OpenState → Result ReportCommand CommandFault → RepoState → Drawn
    → Type 0
OpenStep name report (Ok (SetPath reported)) c d =
    d ≡ GoesOn (set_path_report c name report reported None)
OpenStep name report (Ok (LinkPath reported url)) c d =
    d ≡ GoesOn (set_path_report c name report reported (Some url))
OpenStep name report (Ok (DeletePath path)) c d =
    d ≡ GoesOn (delete_path_report report path)
OpenStep name report (Ok FinishReport) c d = EndStep report c d
OpenStep name report (Ok AbortReport) c d = d ≡ GivenUp
OpenStep name report (Err UnknownName) c d = d ≡ GoesOn (Refused refusals.UnknownCommand None)
OpenStep name report (Err BadParameters) c d = d ≡ Malformed
OpenStep name report (Err NoMemory) c d = d ≡ Malformed

-- a command of a report that is refused, which is read by its name alone
abbrev pub refused_drawn : Refusal → Option PathValue → Option (Option ReportName) → Drawn
refused_drawn r path None = Malformed
refused_drawn r path (Some (Some names.FinishReport)) = Fails r path
refused_drawn r path (Some (Some names.AbortReport)) = GivenUp
refused_drawn r path (Some _) = GoesOn (Refused r path)

-- what an item draws of a report
abbrev pub ReportStep : List ℕ → ReportState → ItemValue → RepoState → Drawn → Type 0
ReportStep name (Refused r path) item c d = d ≡ refused_drawn r path (name_of item)
ReportStep name (Open report) item c d = OpenStep name report (report_command item) c d

-- ---- the client's answer to a drive

-- `( number message file line )`: a link of a failure
abbrev pub failure_link : ItemValue → Option FailureLink
failure_link item = do
  items ← items_in item
  (n, rest) ← number_first items
  (message, rest) ← string_first rest
  (file, rest) ← string_first rest
  (line, _) ← number_first rest
  Some (record { number = n; message = message; file = file; line = line })

-- `( number message file line ) ...`
abbrev pub failure_links : ItemValues → Option (List FailureLink)
failure_links none = Some []
failure_links (more item rest) = do
  l ← failure_link item
  ls ← failure_links rest
  Some (l ∷ ls)

-- the links of a failure; where one of them is of another form there are none
abbrev pub reason : ItemValues → List FailureLink
reason params = unwrap_or (failure_links params) []

-- the answer of this name
abbrev pub answer_of : List ℕ → ItemValues → Option ClientAnswer
answer_of name params =
    if is_name name (codes "success") then Some Taken
    else if is_name name (codes "failure") then Some (answers.GivenUp (reason params))
    else None

-- `( success ( ... ) )` or `( failure ( link ... ) )`: what the client answers, if the item is an answer
abbrev pub client_answer : ItemValue → Option ClientAnswer
client_answer item = do
  (name, params) ← command_form item
  answer_of name params
