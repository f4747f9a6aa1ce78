-- What a session asks of the repository by an input.
use Rattle.std.specs.Prelude.{◌≡◌, ℕ, Bool, true, false, List, [], ◌∷◌, Option, Some, None, Ok}
use Rattle.svnpath.specs.{Paths.PathValue, Texts.joined}
use Rattle.dates.specs.Dates.{IsDateText}
use Rattle.repo_api.specs.{Accepted.Accepted, Accepted.Accepted.{ChangesProperty, Commits, Locks, Releases, Unlocks}}
use Rattle.cram.specs.Answer.{IsAnswerOf}
use Rattle.commands.specs.{Commands.main_command, Logins.challenge_answer, declared.command.MainCommand.MainCommand}
use Rattle.commands.specs.{declared.command.MainCommand.TheVariants.{Lock, Unlock, ChangeRevProp}, declared.command.LockCommand.LockCommand}
use Rattle.commands.specs.declared.command.UnlockCommand.{UnlockCommand}
use Rattle.wire_edits.specs.{Editing.editor_command, declared.editing.EditorCommand.TheVariants.CloseEdit}
use Rattle.edit_rules.specs.Editor.{finished}
use Rattle.machine.specs.{Commands.{lock_ask, unlock_ask}, Hearing.Input, Hearing.Input.{Broken, Whole}, Logins.{logins_or_none, wants_user, with_user}}
use Rattle.machine.specs.{Machine.{commit_ask, MachineEdit}, Settings.Settings, Stages.{SessionState, Stage}, declared.env.Env.Env}
use Rattle.machine.specs.declared.phase.Client.{Client}
use Rattle.machine.specs.declared.phase.Phase.TheVariants.{Greeted, LoggingIn, Challenged, Serving, Editing, Skipping, Reporting, Driven, Ended}
use Rattle.hub.specs.{State.{HubState, session_of}, Runs.Event, Runs.Event.{Connects, HandsIn, Hears, Leaves, Drops}}

-- a client asks for the change by a command, at the moment and with the word that are handed in, where
-- clients may change properties of revisions, or may not
abbrev pub IsAskedBy : Bool → Env → Client → MainCommand → Accepted → Type 0
IsAskedBy may env client command (Commits ask t) = ⊥
IsAskedBy may env client command (Locks ask) =
    (lock : LockCommand) × (command ≡ Lock lock)
    × (path : PathValue) × (joined client.path lock.path ≡ Ok path)
    × (date : List ℕ) × IsDateText env.moment date × (ask ≡ lock_ask env client lock path date)
IsAskedBy may env client command (Unlocks ask) =
    (unlock : UnlockCommand) × (command ≡ Unlock unlock)
    × (path : PathValue) × (joined client.path unlock.path ≡ Ok path)
    × (ask ≡ unlock_ask client unlock path)
IsAskedBy may env client command (Releases user tokens) = ⊥
IsAskedBy may env client command (ChangesProperty ask) =
    (may ≡ true) × (command ≡ ChangeRevProp ask)

-- the change is the commit of this edit's transaction, with what was asked for as it began, or the
-- release behind it
abbrev pub IsOfEdit : Env → MachineEdit → Accepted → Type 0
IsOfEdit env edit (Commits ask t) =
    (finished edit.editor ≡ Ok t)
    × (date : List ℕ) × IsDateText env.moment date × (ask ≡ commit_ask edit.client edit.asked date)
IsOfEdit env edit (Locks ask) = ⊥
IsOfEdit env edit (Unlocks ask) = ⊥
IsOfEdit env edit (Releases user tokens) =
    (user ≡ edit.client.user) × (tokens ≡ edit.asked.tokens)
IsOfEdit env edit (ChangesProperty ask) = ⊥

-- the client asks for it by a command that has waited for a login
abbrev pub IsWaiting : Bool → Env → Client → Option MainCommand → Accepted → Type 0
IsWaiting may env client waiting e =
    (command : MainCommand) × (waiting ≡ Some command) × IsAskedBy may env client command e

-- the change is what a session asks for, where it stands so, by this input: by the command that it
-- reads, which waits for no login; by the one that waits for one, where there are no users, or this is a
-- user's right answer; or by the end of its edit
abbrev pub IsAsked : Settings → Env → Stage → Input → Accepted → Type 0
IsAsked s env (Serving client) (Whole t) e =
    (command : MainCommand) × (main_command client.is_of_today t ≡ Ok command)
    × (wants_user s client command ≡ false) × IsAskedBy s.revprops env client command e
IsAsked s env (LoggingIn login) (Whole t) e =
    (s.users ≡ None) × IsWaiting s.revprops env login.client login.waiting e
IsAsked s env (Challenged pending) (Whole t) e =
    (text : List ℕ) × (challenge_answer t ≡ Some text) × (name : List ℕ)
    × IsAnswerOf pending.challenge (logins_or_none s.users) text (Some name)
    × IsWaiting s.revprops env (with_user pending.login.client name) pending.login.waiting e
IsAsked s env (Editing edit) (Whole t) e = (editor_command t ≡ Ok CloseEdit) × IsOfEdit env edit e
IsAsked s env Greeted (Whole t) e = ⊥
IsAsked s env (Skipping client) (Whole t) e = ⊥
IsAsked s env (Reporting reporting) (Whole t) e = ⊥
IsAsked s env (Driven client) (Whole t) e = ⊥
IsAsked s env Ended (Whole t) e = ⊥
IsAsked s env phase Broken e = ⊥

-- an open session asks for it; one that has ended asks for nothing
abbrev pub IsAskedIn : Settings → Env → Option SessionState → Input → Accepted → Type 0
IsAskedIn settings env None input e = ⊥
IsAskedIn settings env (Some s) input e = IsAsked settings env s.phase input e

-- by an event its session asks for the change
abbrev pub IsAskedAt : HubState → Env → Event → Accepted → Type 0
IsAskedAt old env (Connects n) e = ⊥
IsAskedAt old env (HandsIn words) e = ⊥
IsAskedAt old env (Hears n input) e = IsAskedIn old.settings env (session_of old.sessions n) input e
IsAskedAt old env (Leaves n input) e = IsAskedIn old.settings env (session_of old.sessions n) input e
IsAskedAt old env (Drops n) e = ⊥

-- it is so of each of the changes
abbrev pub AreAll : (Accepted → Type 0) → List Accepted → Type 0
AreAll P [] = Unit {0}
AreAll P (e ∷ es) = P e × AreAll P es
