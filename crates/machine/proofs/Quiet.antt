-- Answers that keep all revisions, and begin no edit but a new one.
use Rattle.std.proofs.Common.{◌≡◌, ℕ, List, [], ◌∷◌, Bool, true, false, Option, Some, None, refl, sym, subst}
use Rattle.std.specs.Prelude.{Result, Ok, Err, if◌then◌else◌}
use Rattle.svnpath.specs.{Paths.PathValue, Texts.joined, Urls.{path_of_text, root_of_text}, declared.fault.PathFault.PathFault}
use Rattle.refusals.specs.declared.Refusal.{Refusal}
use Rattle.repo_api.specs.{Accepted.Accepted, Accepted.Accepted.{ChangesProperty, Commits, Locks, Releases, Unlocks}, Locking.{lock_refusal, unlock_refusal}}
use Rattle.repo_api.specs.{RevisionProperties.property_refusal, States.RepoState, declared.lock_ask.LockAsk.LockAsk}
use Rattle.repo_api.specs.declared.property_ask.PropertyAsk.{PropertyAsk}
use Rattle.commands.specs.{Commands.main_command, Logins.{client_greeting, auth_response, challenge_answer}, declared.command.LockCommand.LockCommand}
use Rattle.commands.specs.{declared.command.UnlockCommand.UnlockCommand, declared.command.MainCommand.MainCommand}
use Rattle.commands.specs.declared.command.MainCommand.TheVariants.{Read, Drive, Commit, AbortEdit, Lock, Unlock, ChangeRevProp, Reparent}
use Rattle.commands.specs.{declared.login.ClientGreeting.ClientGreeting, declared.login.AuthResponse.AuthResponse}
use Rattle.wire_edits.specs.Editing.{ends_edit}
use Rattle.machine.specs.{Hearing.Input, Hearing.Input.{Whole, Broken}, Answers.Verdict.{Written, NotWritten, Unknown}}
use Rattle.machine.specs.{declared.login.OpenChallenge.OpenChallenge, Settings.Settings, Stages.Stage}
use Rattle.machine.specs.{Answers.{Verdict, Answer, Step, says, change_answer, ChangeStep, behind, Behind}, Commands.{OwnStep, asked_by, lock_tokens}}
use Rattle.machine.specs.Commands.{commit_begins, env_without_token, is_long_comment, lock_ask, unlock_ask, lock_answer, LockingStep, LockStep, UnlockStep}
use Rattle.machine.specs.{Commands.{DatingStep, PropertyStep, reparented, login_request}, Dates.is_refused_date, Reports.{drawn_answer, driven_answer}}
use Rattle.machine.specs.Logins.{offer, chosen, wants_user, speaks, url_answer, greeting_answer, LoggedIn, ChoiceStep, LoginStep, with_user, OutcomeStep}
use Rattle.machine.specs.{Logins.ChallengeStep, Machine.{InputStep, KnownCommand, MainStep, skipping_answer}}
use Rattle.machine.specs.{declared.commit_parameters.CommitParameters.CommitParameters, declared.env.Env.Env, declared.login.Mechanism.Mechanism}
use Rattle.machine.specs.{declared.login.OpenLogin.OpenLogin, declared.phase.Client.Client}
use Rattle.machine.specs.declared.phase.Phase.TheVariants.{Greeted, LoggingIn, Challenged, Serving, Editing, Skipping, Reporting, Driven, Ended}
use Rattle.wire_forms.specs.{declared.fault.CommandFault.CommandFault, declared.fault.CommandFault.TheVariants.{UnknownName, BadParameters, NoMemory}}
use Rattle.wire_replies.specs.declared.reply.Reply.{Reply}
use Rattle.wire_replies.specs.declared.reply.Reply.TheVariants as replies
use Rattle.reporter.specs.{Reporting.{Drawn, client_answer}, Reporting.Drawn.{GoesOn, GivenUp, Fails, Drives, Malformed}}
use Rattle.reporter.specs.{declared.answering.ClientAnswer.ClientAnswer, declared.answering.ClientAnswer.TheVariants.Taken}
use Rattle.reporter.specs.declared.answering.ClientAnswer.TheVariants as answers
use Rattle.edit_rules.specs.Edits.{new_edit}
use Rattle.machine.specs.declared.login.Mechanism.TheVariants as mechanisms

-- an edit, if the session has one, is one of which nothing has been made
abbrev pub HasNewEdit : Settings → Stage → Type 0
HasNewEdit s Greeted = Unit {0}
HasNewEdit s (LoggingIn login) = Unit {0}
HasNewEdit s (Challenged pending) = Unit {0}
HasNewEdit s (Serving client) = Unit {0}
HasNewEdit s (Editing edit) = edit.editor ≡ new_edit edit.client.path s.name edit.client.is_of_today
HasNewEdit s (Skipping client) = Unit {0}
HasNewEdit s (Reporting reporting) = Unit {0}
HasNewEdit s (Driven client) = Unit {0}
HasNewEdit s Ended = Unit {0}

-- the change leaves the revisions as they are
abbrev pub keeps_revisions : Accepted → Bool
keeps_revisions (Commits ask t) = false
keeps_revisions (Locks ask) = true
keeps_revisions (Unlocks ask) = true
keeps_revisions (Releases user tokens) = true
keeps_revisions (ChangesProperty ask) = true

-- and so does each of these
abbrev pub KeepRevisions : List Accepted → Type 0
KeepRevisions [] = Unit {0}
KeepRevisions (e ∷ es) = (keeps_revisions e ≡ true) × KeepRevisions es

pub record IsQuiet (s : Settings) (a : Answer) : Type 0 where
  pub kept : KeepRevisions a.effect.changes
  pub new : HasNewEdit s a.phase

quiet_is : (s : Settings) (a b : Answer) → a ≡ b → IsQuiet s b → IsQuiet s a
quiet_is s a b e q = subst (λ (x : Answer). IsQuiet s x) (sym e) q

quiet_if : (s : Settings) (b : Bool) (x y : Answer) → IsQuiet s x → IsQuiet s y → IsQuiet s (if b then x else y)
quiet_if s true x y p q = p
quiet_if s false x y p q = q

quiet_behind : (s : Settings) (told : List Reply) (own : Step) (halted : Bool) (c : RepoState) (a : Answer)
    → ((b : Answer) → own halted c b → IsQuiet s b) → Behind told own halted c a → IsQuiet s a
quiet_behind s told own halted c a quiet (b, step, is) =
    quiet_is s a (behind told b) is (record { kept = (quiet b step).kept; new = (quiet b step).new })

-- replies after which no edit is open
plain : (s : Settings) (env : Env) (client : Client) (told : List Reply) → IsQuiet s (says env (Serving client) told)
plain s env client told = record { kept = tt; new = tt }

asking : (s : Settings) (env : Env) (login : OpenLogin) (told : List Reply) → IsQuiet s (says env (LoggingIn login) told)
asking s env login told = record { kept = tt; new = tt }

ending : (s : Settings) (env : Env) (told : List Reply) → IsQuiet s (says env Ended told)
ending s env told = record { kept = tt; new = tt }

-- ---- reports

quiet_drawn : (s : Settings) (env : Env) (client : Client) (d : Drawn) → IsQuiet s (drawn_answer env client d)
quiet_drawn s env client (GoesOn report) = record { kept = tt; new = tt }
quiet_drawn s env client GivenUp = plain s env client _
quiet_drawn s env client (Fails r path) = plain s env client _
quiet_drawn s env client (Drives drive) = record { kept = tt; new = tt }
quiet_drawn s env client Malformed = ending s env _

quiet_driven : (s : Settings) (env : Env) (client : Client) (answer : Option ClientAnswer) → IsQuiet s (driven_answer env client answer)
quiet_driven s env client None = ending s env _
quiet_driven s env client (Some Taken) = plain s env client _
quiet_driven s env client (Some (answers.GivenUp links)) = plain s env client _

-- ---- the greeting

quiet_url : (s : Settings) (env : Env) (g : ClientGreeting) (path : Result PathValue PathFault) (root : Result (List ℕ) PathFault) → IsQuiet s (url_answer s env g path root)
quiet_url s env g (Ok path) (Ok root) = asking s env _ _
quiet_url s env g (Ok path) (Err fault) = ending s env _
quiet_url s env g (Err fault) root = ending s env _

quiet_greeting : (s : Settings) (env : Env) (r : Result ClientGreeting CommandFault) → IsQuiet s (greeting_answer s env r)
quiet_greeting s env (Ok g) =
    let path = path_of_text g.url s.name in
    let root = root_of_text g.url s.name in
    quiet_if s (speaks g) (url_answer s env g path root) (says env Ended []) (quiet_url s env g path root) (ending s env [])
quiet_greeting s env (Err fault) = ending s env _

-- ---- changes

quiet_change : (s : Settings) (env : Env) (client : Client) (e : Accepted) (told : List Reply) (v : Verdict) → keeps_revisions e ≡ true → IsQuiet s (change_answer env client e told v)
quiet_change s env client e told Written of = record { kept = (of, tt); new = tt }
quiet_change s env client e told NotWritten of = record { kept = tt; new = tt }
quiet_change s env client e told (Unknown x) of = record { kept = tt; new = tt }

quiet_step : (s : Settings) (halted : Bool) (env : Env) (client : Client) (r : Option Refusal) (e : Accepted) (answer : Verdict → Answer) (a : Answer)
    → ((v : Verdict) → IsQuiet s (answer v)) → ChangeStep halted env client r e answer a → IsQuiet s a
quiet_step s true env client r e answer a quiet is = quiet_is s a _ is (ending s env _)
quiet_step s false env client (Some r) e answer a quiet is = quiet_is s a _ is (plain s env client _)
quiet_step s false env client None e answer a quiet (v, may, is) = quiet_is s a _ is (quiet v)

quiet_locked : (s : Settings) (env : Env) (client : Client) (ask : LockAsk) (v : Verdict) → IsQuiet s (lock_answer env client ask v)
quiet_locked s env client ask Written = quiet_change s (env_without_token env) client (Locks ask) _ Written refl
quiet_locked s env client ask NotWritten = quiet_change s env client (Locks ask) [] NotWritten refl
quiet_locked s env client ask (Unknown x) = quiet_change s env client (Locks ask) [] (Unknown x) refl

quiet_locking : (s : Settings) (halted : Bool) (env : Env) (c : RepoState) (client : Client) (command : LockCommand) (path : Result PathValue PathFault) (a : Answer)
    → LockingStep env client command path halted c a → IsQuiet s a
quiet_locking s halted env c client command (Ok path) a (date, is_date, step) =
    let ask = lock_ask env client command path date in
    quiet_step s halted env client (lock_refusal c ask) (Locks ask) (lock_answer env client ask) a (quiet_locked s env client ask) step
quiet_locking s halted env c client command (Err fault) a is = quiet_is s a _ is (plain s env client _)

quiet_lock : (s : Settings) (long halted : Bool) (env : Env) (c : RepoState) (client : Client) (command : LockCommand) (path : Result PathValue PathFault) (a : Answer)
    → LockStep long env client command path halted c a → IsQuiet s a
quiet_lock s false halted env c client command path a step = quiet_locking s halted env c client command path a step
quiet_lock s true halted env c client command path a is = quiet_is s a _ is (plain s env client _)

quiet_unlock : (s : Settings) (halted : Bool) (env : Env) (c : RepoState) (client : Client) (command : UnlockCommand) (path : Result PathValue PathFault) (a : Answer)
    → UnlockStep env client command path halted c a → IsQuiet s a
quiet_unlock s halted env c client command (Ok path) a step =
    let ask = unlock_ask client command path in
    quiet_step s halted env client (unlock_refusal c ask) (Unlocks ask) (change_answer env client (Unlocks ask) (replies.Success ∷ [])) a
    (λ v. quiet_change s env client (Unlocks ask) _ v refl) step
quiet_unlock s halted env c client command (Err fault) a is = quiet_is s a _ is (plain s env client _)

quiet_dating : (s : Settings) (refused halted : Bool) (env : Env) (c : RepoState) (client : Client) (ask : PropertyAsk) (a : Answer)
    → DatingStep refused env client ask halted c a → IsQuiet s a
quiet_dating s true halted env c client ask a is = quiet_is s a _ is (plain s env client _)
quiet_dating s false halted env c client ask a step =
    quiet_step s halted env client (property_refusal c ask) (ChangesProperty ask) (change_answer env client (ChangesProperty ask) (replies.Success ∷ [])) a
    (λ v. quiet_change s env client (ChangesProperty ask) _ v refl) step

quiet_property : (s : Settings) (may halted : Bool) (env : Env) (c : RepoState) (client : Client) (ask : PropertyAsk) (a : Answer)
    → PropertyStep may env client ask halted c a → IsQuiet s a
quiet_property s false halted env c client ask a is = quiet_is s a _ is (plain s env client _)
quiet_property s true halted env c client ask a step = quiet_dating s (is_refused_date client.is_of_today ask) halted env c client ask a step

-- ---- commands

quiet_begins : (s : Settings) (env : Env) (client : Client) (r : Result CommitParameters Refusal) → IsQuiet s (commit_begins s env client r)
quiet_begins s env client (Ok asked) = record { kept = tt; new = refl }
quiet_begins s env client (Err r) = plain s env client _

quiet_reparented : (s : Settings) (env : Env) (client : Client) (path : Result PathValue PathFault) → IsQuiet s (reparented env client path)
quiet_reparented s env client (Ok path) = record { kept = tt; new = tt }
quiet_reparented s env client (Err fault) = plain s env client _

quiet_own : (s : Settings) (halted : Bool) (env : Env) (c : RepoState) (client : Client) (command : MainCommand) (a : Answer)
    → OwnStep s env client command halted c a → IsQuiet s a
quiet_own s halted env c client (Read command) a is = quiet_is s a _ is (plain s env client _)
quiet_own s halted env c client (Drive command) a is = quiet_is s a _ is (quiet_drawn s env client (GoesOn _))
quiet_own s halted env c client (Commit command) a is =
    quiet_is s a _ is (quiet_begins s env client (asked_by command (lock_tokens client.path command.tokens)))
quiet_own s halted env c client AbortEdit a is = quiet_is s a _ is (plain s env client _)
quiet_own s halted env c client (Lock command) a step =
    quiet_lock s (is_long_comment command.comment) halted env c client command (joined client.path command.path) a step
quiet_own s halted env c client (Unlock command) a step = quiet_unlock s halted env c client command (joined client.path command.path) a step
quiet_own s halted env c client (ChangeRevProp ask) a step = quiet_property s s.revprops halted env c client ask a step
quiet_own s halted env c client (Reparent url) a is =
    quiet_is s a _ is (quiet_reparented s env client (path_of_text url s.name))

quiet_known : (s : Settings) (waits halted : Bool) (env : Env) (c : RepoState) (client : Client) (command : MainCommand) (a : Answer)
    → KnownCommand waits s env client command halted c a → IsQuiet s a
quiet_known s true halted env c client command a is = quiet_is s a _ is (asking s env _ _)
quiet_known s false halted env c client command a step =
    quiet_behind s (login_request command) (OwnStep s env client command) halted c a (quiet_own s halted env c client command) step

quiet_main : (s : Settings) (halted : Bool) (env : Env) (c : RepoState) (client : Client) (r : Result MainCommand CommandFault) (a : Answer)
    → MainStep s env client r halted c a → IsQuiet s a
quiet_main s halted env c client (Ok command) a step = quiet_known s (wants_user s client command) halted env c client command a step
quiet_main s halted env c client (Err UnknownName) a is = quiet_is s a _ is (plain s env client _)
quiet_main s halted env c client (Err BadParameters) a is = quiet_is s a _ is (ending s env _)
quiet_main s halted env c client (Err NoMemory) a is = quiet_is s a _ is (ending s env _)

-- ---- logins

quiet_logged_in : (s : Settings) (halted : Bool) (env : Env) (c : RepoState) (client : Client) (waiting : Option MainCommand) (a : Answer)
    → LoggedIn s env client waiting halted c a → IsQuiet s a
quiet_logged_in s halted env c client None a is = quiet_is s a _ is (plain s env client _)
quiet_logged_in s halted env c client (Some command) a step =
    quiet_behind s (replies.Success ∷ []) (OwnStep s env client command) halted c a (quiet_own s halted env c client command) step

quiet_choice : (s : Settings) (halted : Bool) (env : Env) (c : RepoState) (login : OpenLogin) (mechanism : Option Mechanism) (a : Answer)
    → ChoiceStep s env login mechanism halted c a → IsQuiet s a
quiet_choice s halted env c login None a is = quiet_is s a _ is (asking s env login _)
quiet_choice s halted env c login (Some mechanisms.Anonymous) a step = quiet_logged_in s halted env c login.client login.waiting a step
quiet_choice s halted env c login (Some mechanisms.CramMd5) a is = quiet_is s a _ is (record { kept = tt; new = tt })
quiet_choice s halted env c login (Some mechanisms.External) a step = quiet_logged_in s halted env c _ None a step

quiet_login : (s : Settings) (halted : Bool) (env : Env) (c : RepoState) (login : OpenLogin) (r : Result AuthResponse CommandFault) (a : Answer)
    → LoginStep s env login r halted c a → IsQuiet s a
quiet_login s halted env c login (Ok r) a step = quiet_choice s halted env c login (chosen (offer s.account s.users login.waiting) r.mechanism) a step
quiet_login s halted env c login (Err fault) a is = quiet_is s a _ is (ending s env _)

quiet_outcome : (s : Settings) (halted : Bool) (env : Env) (c : RepoState) (login : OpenLogin) (user : Option (List ℕ)) (a : Answer)
    → OutcomeStep s env login user halted c a → IsQuiet s a
quiet_outcome s halted env c login None a is = quiet_is s a _ is (asking s env login _)
quiet_outcome s halted env c login (Some name) a step = quiet_logged_in s halted env c (with_user login.client name) login.waiting a step

quiet_challenge : (s : Settings) (halted : Bool) (env : Env) (c : RepoState) (pending : OpenChallenge) (text : Option (List ℕ)) (a : Answer)
    → ChallengeStep s env pending text halted c a → IsQuiet s a
quiet_challenge s halted env c pending None a is = quiet_is s a _ is (ending s env _)
quiet_challenge s halted env c pending (Some text) a (user, whose, step) = quiet_outcome s halted env c pending.login user a step

-- ---- an edit that was given up

quiet_skipping : (s : Settings) (env : Env) (client : Client) (ends : Option Bool) → IsQuiet s (skipping_answer env client ends)
quiet_skipping s env client None = ending s env _
quiet_skipping s env client (Some true) = plain s env client _
quiet_skipping s env client (Some false) = record { kept = tt; new = tt }

-- ---- an input

-- the session has an edit, and a command of it has come
abbrev pub IsEditing : Stage → Input → Type 0
IsEditing (Editing edit) (Whole t) = Unit {0}
IsEditing phase input = ⊥

-- but for the commands of an edit, an input keeps all revisions
pub quiet_input : (s : Settings) (halted : Bool) (env : Env) (c : RepoState) (phase : Stage) (input : Input) (a : Answer)
    → (IsEditing phase input → ⊥) → InputStep s env phase input halted c a → IsQuiet s a
quiet_input s halted env c Greeted (Whole t) a not is = quiet_is s a _ is (quiet_greeting s env (client_greeting t))
quiet_input s halted env c (LoggingIn login) (Whole t) a not step = quiet_login s halted env c login (auth_response t) a step
quiet_input s halted env c (Challenged pending) (Whole t) a not step = quiet_challenge s halted env c pending (challenge_answer t) a step
quiet_input s halted env c (Serving client) (Whole t) a not step = quiet_main s halted env c client (main_command client.is_of_today t) a step
quiet_input s halted env c (Editing edit) (Whole t) a not step = absurd (not tt)
quiet_input s halted env c (Skipping client) (Whole t) a not is = quiet_is s a _ is (quiet_skipping s env client (ends_edit t))
quiet_input s halted env c (Reporting reporting) (Whole t) a not (d, step, is) = quiet_is s a _ is (quiet_drawn s env reporting.client d)
quiet_input s halted env c (Driven client) (Whole t) a not is = quiet_is s a _ is (quiet_driven s env client (client_answer t))
quiet_input s halted env c Greeted Broken a not is = quiet_is s a _ is (ending s env _)
quiet_input s halted env c (LoggingIn login) Broken a not is = quiet_is s a _ is (ending s env _)
quiet_input s halted env c (Challenged pending) Broken a not is = quiet_is s a _ is (ending s env _)
quiet_input s halted env c (Serving client) Broken a not is = quiet_is s a _ is (ending s env _)
quiet_input s halted env c (Editing edit) Broken a not is = quiet_is s a _ is (ending s env _)
quiet_input s halted env c (Skipping client) Broken a not is = quiet_is s a _ is (ending s env _)
quiet_input s halted env c (Reporting reporting) Broken a not is = quiet_is s a _ is (ending s env _)
quiet_input s halted env c (Driven client) Broken a not is = quiet_is s a _ is (ending s env _)
quiet_input s halted env c Ended input a not is = quiet_is s a _ is (ending s env _)
