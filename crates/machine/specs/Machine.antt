-- One session of the machine: where it stands, and what each input does.
use Rattle.std.specs.Prelude.{◌≡◌, Bool, true, false, if◌then◌else◌, List, [], ◌∷◌, length, Option, Some, None, Result, Ok, Err, ℕ}
use Rattle.svnpath.specs.Paths.{PathValue}
use Rattle.refusals.specs.declared.Refusal.{Refusal}
use Rattle.refusals.specs.declared.Refusal.TheVariants as refusals
use Rattle.dates.specs.Dates.{IsDateText}
use Rattle.access.specs.Changing.{wants_release}
use Rattle.repo_api.specs.{Accepted.Accepted.{Commits, Releases}, Commits.{IsRefusedAt, commit_refusal, committed}, States.{RepoState, TxnState}}
use Rattle.repo_api.specs.declared.ask.CommitAsk.{CommitAsk}
use Rattle.commands.specs.{Commands.main_command, Logins.{client_greeting, auth_response, challenge_answer}, declared.command.MainCommand.MainCommand}
use Rattle.wire_edits.specs.{Editing.{editor_command, ends_edit}, declared.editing.EditorCommand.EditorCommand}
use Rattle.wire_edits.specs.declared.editing.EditorCommand.TheVariants.{TargetRevision, OpenRoot, DeleteEntry, AddDirectory, AddFile, OpenDirectory, OpenFile}
use Rattle.wire_edits.specs.declared.editing.EditorCommand.TheVariants.{AbsentDirectory, AbsentFile, ChangeDirectoryProperty, ChangeFileProperty}
use Rattle.wire_edits.specs.declared.editing.EditorCommand.TheVariants.{ApplyTextDelta, TextDeltaChunk, TextDeltaEnd, CloseDirectory, CloseFile, CloseEdit}
use Rattle.wire_edits.specs.declared.editing.EditorCommand.TheVariants as edits
use Rattle.wire_forms.specs.{declared.fault.CommandFault.CommandFault, declared.fault.CommandFault.TheVariants.{UnknownName, BadParameters, NoMemory}}
use Rattle.wire_replies.specs.declared.reply.Reply.TheVariants as replies
use Rattle.reporter.specs.Reporting.{client_answer}
use Rattle.edit_rules.specs.{Editor.{Applies, applies_weaker, finished}, Edits.EditState, Refused.refused_at, Refusing.edit_refusal}
use Rattle.machine.specs.{Settings.Settings, Hearing.Input, Hearing.Input.{Whole, Broken}, Stages.Stage}
use Rattle.machine.specs.Answers.{Verdict, Effect, no_effect, Answer, Step, says, serves, change_answer, Behind, failure_at, malformed, refuses, Always}
use Rattle.machine.specs.{Answers.Verdict.{Written, NotWritten, Unknown}, Commands.{login_request, OwnStep}, Reports.{ReportingStep, driven_answer}}
use Rattle.machine.specs.{Logins.{asks, wants_user, greeting_answer, LoginStep, ChallengeStep}, declared.env.Env.Env}
use Rattle.machine.specs.{declared.commit_parameters.CommitParameters.CommitParameters, declared.ending.Ending.Ending}
use Rattle.machine.specs.{declared.ending.Ending.TheVariants.{Commits, GivesUp}, declared.phase.OpenEdit.OpenEdit}
use Rattle.machine.specs.declared.phase.Phase.TheVariants.{Greeted, LoggingIn, Challenged, Serving, Editing, Skipping, Reporting, Driven, Ended}
use Rattle.machine.specs.declared.phase.Client.{Client}

-- ---- a command

-- a command waits for a login, or is answered: the login request, which asks for nothing, comes
-- before its own answer
abbrev pub KnownCommand : Bool → Settings → Env → Client → MainCommand → Step
KnownCommand true s env client command =
    Always (asks s env (record { client = client; waiting = Some command }))
KnownCommand false s env client command =
    Behind (login_request command) (OwnStep s env client command)

abbrev pub MainStep : Settings → Env → Client → Result MainCommand CommandFault → Step
MainStep s env client (Ok command) = KnownCommand (wants_user s client command) s env client command
MainStep s env client (Err UnknownName) =
    Always (serves env client (replies.Failure refusals.UnknownCommand None))
MainStep s env client (Err BadParameters) = Always (malformed env)
MainStep s env client (Err NoMemory) = Always (malformed env)

-- ---- an edit

-- what refuses a command gives the edit up: the commands up to its end are passed over
abbrev pub gives_up : Env → Client → Refusal → Option PathValue → Answer
gives_up env client r path =
    says env (Skipping client) (failure_at client.is_of_today r path ∷ [])

-- an edit, as the machine has it
abbrev pub MachineEdit : Type 0
MachineEdit = OpenEdit EditState

-- a command of an edit that was judged so, under the premise that what was read is known
abbrev pub JudgedEdit : Type 0 → Env → RepoState → MachineEdit → EditorCommand → Option Refusal → Answer
    → Type 0
JudgedEdit known env c edit command None a =
    (after : EditState) × Applies known c edit.editor command after
    × (a ≡ says env (Editing (record { client = edit.client; asked = edit.asked; editor = after })) [])
JudgedEdit known env c edit command (Some r) a =
    a ≡ gives_up env edit.client r (refused_at edit.editor command r)

abbrev pub EditStep : Type 0 → Env → MachineEdit → EditorCommand → Step
EditStep known env edit command halted c a =
    JudgedEdit known env c edit command (edit_refusal c edit.editor command) a

-- ---- the end of an edit

abbrev pub commit_ask : Client → CommitParameters → List ℕ → CommitAsk
commit_ask client asked date = record {
  date = date;
  author = client.user;
  message = asked.message;
  properties = asked.properties;
  tokens = asked.tokens;
  keep_locks = asked.keep_locks;
}

-- what becomes of the locks that were handed in with a commit: they stay, they are released, or the
-- store fails at their release: they are not released, or nobody knows whether they are
pub data Release : Type 0 where
  Stays : Release
  Released : Release
  NotReleased : Release
  InDoubt : Release

-- a release is tried exactly where it is wanted
abbrev pub IsReleaseOf : Bool → Release → Type 0
IsReleaseOf false Stays = Unit {0}
IsReleaseOf false Released = ⊥
IsReleaseOf false NotReleased = ⊥
IsReleaseOf false InDoubt = ⊥
IsReleaseOf true Stays = ⊥
IsReleaseOf true Released = Unit {0}
IsReleaseOf true NotReleased = Unit {0}
IsReleaseOf true InDoubt = Unit {0}

abbrev pub release_fails : Release → Bool
release_fails Stays = false
release_fails Released = false
release_fails NotReleased = true
release_fails InDoubt = true

abbrev pub release_effect : CommitAsk → Release → Effect
release_effect ask Stays = no_effect
release_effect ask Released =
    record { changes = Releases ask.author ask.tokens ∷ []; store = Written }
release_effect ask NotReleased = record { changes = []; store = NotWritten }
release_effect ask InDoubt =
    record { changes = []; store = Unknown (Releases ask.author ask.tokens) }

-- a commit that is made, and its release behind it; where that fails, the session ends
abbrev pub made_answer : Env → RepoState → Client → CommitAsk → TxnState → Release → Answer
made_answer env c client ask t release =
    let freed : Effect = release_effect ask release in
    record {
      replies = replies.Success ∷ replies.NoLogin
          ∷ replies.CommitInfo (length c.revisions) ask.date client.user (release_fails release) ∷ [];
      phase = if release_fails release then Ended else Serving client;
      env = env;
      effect = record { changes = Commits ask t ∷ freed.changes; store = freed.store };
    }

-- a commit that the rules accept, by what the store says
abbrev pub CommittedStep : Env → RepoState → Client → CommitAsk → TxnState → Verdict → Answer
    → Type 0
CommittedStep env c client ask t Written a =
    (release : Release) × IsReleaseOf (wants_release ask (committed c ask t)) release
    × (a ≡ made_answer env c client ask t release)
CommittedStep env c client ask t NotWritten a =
    a ≡ change_answer env client (Commits ask t) [] NotWritten
CommittedStep env c client ask t (Unknown x) a =
    (x ≡ Commits ask t) × (a ≡ change_answer env client (Commits ask t) [] (Unknown x))

-- a commit of this date that was judged so: one that is refused is told with a path at which it is
abbrev pub CommitStep : Bool → Env → RepoState → Client → CommitAsk → TxnState → Option Refusal
    → Answer → Type 0
CommitStep true env c client ask t r a =
    a ≡ says env Ended (replies.Failure refusals.StoreFailed None ∷ [])
CommitStep false env c client ask t (Some r) a =
    (path : Option PathValue) × IsRefusedAt c ask t path × (a ≡ refuses env client r path)
CommitStep false env c client ask t None a =
    (v : Verdict) × CommittedStep env c client ask t v a

-- the edit's transaction is committed, if it has one: dated by the moment, and then judged
abbrev pub CloseStep : Env → Client → CommitParameters → Result TxnState Refusal → Step
CloseStep env client asked (Ok t) halted c a = (date : List ℕ) × IsDateText env.moment date
    × (let ask = commit_ask client asked date in
    CommitStep halted env c client ask t (commit_refusal c ask t) a)
CloseStep env client asked (Err r) halted c a =
    a ≡ says env (Serving client) (replies.Failure r None ∷ [])

-- ---- an end of an edit for which memory is refused

-- the commit stands, and nothing is told of it: the session has ended
abbrev pub unreleased_answer : Env → CommitAsk → TxnState → Answer
unreleased_answer env ask t = record {
  replies = [];
  phase = Ended;
  env = env;
  effect = record { changes = Commits ask t ∷ []; store = Written };
}

-- the edit's transaction is committed, and memory is refused for the release that is wanted behind
-- it: the locks stand, and the session ends
pub record UnreleasedClose (env : Env) (client : Client) (asked : CommitParameters)
    (r : Result TxnState Refusal) (halted : Bool) (c : RepoState) (a : Answer) : Type 0 where
  pub txn : TxnState
  pub txn_is : r ≡ Ok txn
  pub date : List ℕ
  pub is_date : IsDateText env.moment date
  pub running : halted ≡ false
  pub accepted : commit_refusal c (commit_ask client asked date) txn ≡ None
  pub wanted : wants_release (commit_ask client asked date)
      (committed c (commit_ask client asked date) txn) ≡ true
  pub is : a ≡ unreleased_answer env (commit_ask client asked date) txn

-- ---- a command within an edit

-- whether a command ends an edit: it is to be committed, or it is given up
abbrev pub ending_of : EditorCommand → Option Ending
ending_of (TargetRevision revision) = None
ending_of (OpenRoot revision token) = None
ending_of (DeleteEntry entry) = None
ending_of (AddDirectory entry) = None
ending_of (AddFile entry) = None
ending_of (OpenDirectory entry) = None
ending_of (OpenFile entry) = None
ending_of (AbsentDirectory entry) = None
ending_of (AbsentFile entry) = None
ending_of (ChangeDirectoryProperty change) = None
ending_of (ChangeFileProperty change) = None
ending_of (ApplyTextDelta token checksum) = None
ending_of (TextDeltaChunk token bytes) = None
ending_of (TextDeltaEnd token) = None
ending_of (CloseDirectory token) = None
ending_of (CloseFile token checksum) = None
ending_of CloseEdit = Some Commits
ending_of edits.AbortEdit = Some GivesUp

abbrev pub CommandStep : Type 0 → Env → MachineEdit → EditorCommand → Option Ending → Step
CommandStep known env edit command None = EditStep known env edit command
CommandStep known env edit command (Some Commits) =
    CloseStep env edit.client edit.asked (finished edit.editor)
CommandStep known env edit command (Some GivesUp) =
    Always (says env (Serving edit.client) (replies.Success ∷ []))

abbrev pub EditingStep : Type 0 → Env → MachineEdit → Result EditorCommand CommandFault → Step
EditingStep known env edit (Ok command) = CommandStep known env edit command (ending_of command)
EditingStep known env edit (Err UnknownName) =
    Always (gives_up env edit.client refusals.UnknownCommand None)
EditingStep known env edit (Err BadParameters) = Always (malformed env)
EditingStep known env edit (Err NoMemory) = Always (malformed env)

-- under a premise that says more, a command within an edit does no other thing
judged_weaker : {stronger weaker : Type 0} → (weaker → stronger) → (env : Env) (c : RepoState)
    (edit : MachineEdit) (command : EditorCommand) (r : Option Refusal) (a : Answer)
    → JudgedEdit stronger env c edit command r a → JudgedEdit weaker env c edit command r a
judged_weaker f env c edit command None a (after, applies, is) = (after, applies_weaker f c edit.editor command after applies, is)
judged_weaker f env c edit command (Some r) a is = is

command_weaker : {stronger weaker : Type 0} → (weaker → stronger) → (env : Env) (edit : MachineEdit)
    (command : EditorCommand) (ending : Option Ending) (halted : Bool) (c : RepoState) (a : Answer)
    → CommandStep stronger env edit command ending halted c a
    → CommandStep weaker env edit command ending halted c a
command_weaker f env edit command None halted c a step = judged_weaker f env c edit command (edit_refusal c edit.editor command) a step
command_weaker f env edit command (Some Commits) halted c a step = step
command_weaker f env edit command (Some GivesUp) halted c a step = step

pub editing_weaker : {stronger weaker : Type 0} → (weaker → stronger) → (env : Env) (edit : MachineEdit) (r : Result EditorCommand CommandFault)
    (halted : Bool) (c : RepoState) (a : Answer) → EditingStep stronger env edit r halted c a → EditingStep weaker env edit r halted c a
editing_weaker f env edit (Ok command) halted c a step = command_weaker f env edit command (ending_of command) halted c a step
editing_weaker f env edit (Err UnknownName) halted c a step = step
editing_weaker f env edit (Err BadParameters) halted c a step = step
editing_weaker f env edit (Err NoMemory) halted c a step = step

-- the command ends the edit, and memory is refused for the release behind its commit
abbrev pub UnreleasedEnd : Env → MachineEdit → Result EditorCommand CommandFault → Step
UnreleasedEnd env edit r halted c a =
    (r ≡ Ok CloseEdit)
    × UnreleasedClose env edit.client edit.asked (finished edit.editor) halted c a

-- a command of an edit that was given up is read by its name alone, and draws no reply
abbrev pub skipping_answer : Env → Client → Option Bool → Answer
skipping_answer env client None = malformed env
skipping_answer env client (Some true) = says env (Serving client) []
skipping_answer env client (Some false) = says env (Skipping client) []

-- ---- an input

-- What an input does, where changes have come to a halt or not, in a state of the repository.
abbrev pub InputStep : Settings → Env → Stage → Input → Step
InputStep s env Greeted (Whole t) = Always (greeting_answer s env (client_greeting t))
InputStep s env (LoggingIn login) (Whole t) = LoginStep s env login (auth_response t)
InputStep s env (Challenged pending) (Whole t) = ChallengeStep s env pending (challenge_answer t)
InputStep s env (Serving client) (Whole t) = MainStep s env client (main_command client.is_of_today t)
InputStep s env (Editing edit) (Whole t) = EditingStep (Unit {0}) env edit (editor_command t)
InputStep s env (Skipping client) (Whole t) = Always (skipping_answer env client (ends_edit t))
InputStep s env (Reporting reporting) (Whole t) = ReportingStep s env reporting t
InputStep s env (Driven client) (Whole t) = Always (driven_answer env client (client_answer t))
InputStep s env Greeted Broken = Always (malformed env)
InputStep s env (LoggingIn login) Broken = Always (malformed env)
InputStep s env (Challenged pending) Broken = Always (malformed env)
InputStep s env (Serving client) Broken = Always (malformed env)
InputStep s env (Editing edit) Broken = Always (malformed env)
InputStep s env (Skipping client) Broken = Always (malformed env)
InputStep s env (Reporting reporting) Broken = Always (malformed env)
InputStep s env (Driven client) Broken = Always (malformed env)
-- what comes after the end is dropped
InputStep s env Ended input = Always (says env Ended [])

-- Where memory is refused for the release behind a commit, the input at which its session ends. (It
-- is no step of a session that goes on: it may be the last that a session hears.)
abbrev pub UnreleasedStep : Env → Stage → Input → Step
UnreleasedStep env (Editing edit) (Whole t) halted c a =
    UnreleasedEnd env edit (editor_command t) halted c a
UnreleasedStep env (Editing edit) Broken halted c a = ⊥
UnreleasedStep env Greeted input halted c a = ⊥
UnreleasedStep env (LoggingIn login) input halted c a = ⊥
UnreleasedStep env (Challenged pending) input halted c a = ⊥
UnreleasedStep env (Serving client) input halted c a = ⊥
UnreleasedStep env (Skipping client) input halted c a = ⊥
UnreleasedStep env (Reporting reporting) input halted c a = ⊥
UnreleasedStep env (Driven client) input halted c a = ⊥
UnreleasedStep env Ended input halted c a = ⊥
