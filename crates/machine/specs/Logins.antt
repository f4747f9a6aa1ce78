-- Logins: what is offered, and what is answered while a login is under way.
use Rattle.std.specs.Prelude.{◌≡◌, ◌+◌, ◌%◌, ◌^◌, ℕ, Bool, true, false, ◌&&◌, ◌==◌, List, [], ◌∷◌, Option, Some, None, is_some, Result, Ok, Err, if◌then◌else◌}
use Rattle.std.specs.{Prelude.codes, Option.is_none}
use Rattle.svnpath.specs.{Paths.PathValue, Urls.{path_of_text, root_of_text}, declared.fault.PathFault.PathFault}
use Rattle.refusals.specs.Refusing.{path_refusal}
use Rattle.cram.specs.{Login.Login, Answer.{challenge_text, IsAnswerOf}}
use Rattle.wire_forms.specs.{Forms.is_name, declared.fault.CommandFault.CommandFault}
use Rattle.commands.specs.{declared.command.MainCommand.MainCommand, declared.login.ClientGreeting.ClientGreeting, declared.login.AuthResponse.AuthResponse}
use Rattle.wire_replies.specs.{declared.reply.Offer.Offer, declared.reply.Offer.TheVariants.{Anonymous, AnonymousOrUser, User, External}}
use Rattle.wire_replies.specs.declared.reply.Reply.TheVariants as replies
use Rattle.machine.specs.{Settings.Settings, Answers.{Answer, Step, says, Behind, malformed, Always, Shows}, Commands.{is_write, OwnStep}, declared.env.Env.Env}
use Rattle.machine.specs.{declared.login.Mechanism.Mechanism, declared.phase.Client.Client, declared.login.OpenLogin.OpenLogin}
use Rattle.machine.specs.{declared.login.OpenChallenge.OpenChallenge, declared.phase.Phase.TheVariants.{LoggingIn, Challenged, Serving, Ended}}
use Rattle.machine.specs.declared.login.Mechanism.TheVariants as mechanisms

-- ---- what is offered

-- at first: a login as the account that the client came as alone, where that is known; otherwise a
-- login without a name, and a user's as well, where there are users
abbrev pub first_offer : Option (List ℕ) → Option (List Login) → Offer
first_offer (Some account) users = External
first_offer None None = Anonymous
first_offer None (Some users) = AnonymousOrUser

-- for a command that waits: a user's login alone, where there are users
abbrev pub later_offer : Option (List Login) → Offer
later_offer None = Anonymous
later_offer (Some users) = User

abbrev pub offer : Option (List ℕ) → Option (List Login) → Option MainCommand → Offer
offer account users None = first_offer account users
offer account users (Some command) = later_offer users

abbrev pub offers_anonymous : Offer → Bool
offers_anonymous Anonymous = true
offers_anonymous AnonymousOrUser = true
offers_anonymous User = false
offers_anonymous External = false

abbrev pub offers_user : Offer → Bool
offers_user Anonymous = false
offers_user AnonymousOrUser = true
offers_user User = true
offers_user External = false

abbrev pub offers_external : Offer → Bool
offers_external Anonymous = false
offers_external AnonymousOrUser = false
offers_external User = false
offers_external External = true

-- the mechanism of this name, if it is offered
abbrev pub chosen : Offer → List ℕ → Option Mechanism
chosen offered name =
    if offers_anonymous offered && is_name name (codes "ANONYMOUS") then Some mechanisms.Anonymous
    else if offers_user offered && is_name name (codes "CRAM-MD5") then Some mechanisms.CramMd5
    else if offers_external offered && is_name name (codes "EXTERNAL") then Some mechanisms.External
    else None

-- ---- a login is asked for

-- it is asked for, and a choice is awaited
abbrev pub asks : Settings → Env → OpenLogin → Answer
asks s env login =
    says env (LoggingIn login) (replies.Login (offer s.account s.users login.waiting) s.name ∷ [])

-- a write command of a client without a user waits for one, where there are users
abbrev pub wants_user : Settings → Client → MainCommand → Bool
wants_user s client command = is_some s.users && is_none client.user && is_write command

-- ---- after the greeting

-- a client that lists `mergeinfo` among what it can do is one of today, from its login on
abbrev pub new_client : ClientGreeting → PathValue → List ℕ → Client
new_client g path root =
    record { path = path; root = root; user = None; is_of_today = g.mergeinfo }

abbrev pub url_answer : Settings → Env → ClientGreeting → Result PathValue PathFault
    → Result (List ℕ) PathFault → Answer
url_answer s env g (Ok path) (Ok root) =
    asks s env (record { client = new_client g path root; waiting = None })
url_answer s env g (Ok path) (Err fault) =
    says env Ended (replies.Failure (path_refusal fault) None ∷ [])
url_answer s env g (Err fault) root =
    says env Ended (replies.Failure (path_refusal fault) None ∷ [])

-- another version, or a client that waits within edits, is left without a word
abbrev pub speaks : ClientGreeting → Bool
speaks g = (g.version == 2) && g.edit_pipeline

abbrev pub greeting_answer : Settings → Env → Result ClientGreeting CommandFault → Answer
greeting_answer s env (Ok g) =
    if speaks g then url_answer s env g (path_of_text g.url s.name) (root_of_text g.url s.name)
    else says env Ended []
greeting_answer s env (Err fault) = malformed env

-- ---- a mechanism is chosen

-- the client is told of the repository, or the command that waited goes on
abbrev pub LoggedIn : Settings → Env → Client → Option MainCommand → Step
LoggedIn s env client None =
    Shows (λ c. says env (Serving client)
    (replies.Success ∷ replies.ReposInfo c.uuid client.root ∷ []))
LoggedIn s env client (Some command) = Behind (replies.Success ∷ []) (OwnStep s env client command)

abbrev pub challenge_of : Settings → Env → List ℕ
challenge_of s env = challenge_text env.nonce env.moment s.name

-- the words that are left once the nonce is used: the next one, and 0 behind the greatest
abbrev pub without_nonce : Env → Env
without_nonce env = record env { nonce = (env.nonce + 1) % 2 ^ 64 }

-- a challenge goes out, and its answer is awaited
abbrev pub challenges : Settings → Env → OpenLogin → Answer
challenges s env login =
    says (without_nonce env) (Challenged (record { login = login; challenge = challenge_of s env }))
    (replies.Challenge (challenge_of s env) ∷ [])

-- the same client, by the name of the account that it came as
abbrev pub as_account : Client → Option (List ℕ) → Client
as_account client account = record client { user = account }

-- after a mechanism that is not offered another choice is awaited; no command waits for the login of
-- an account
abbrev pub ChoiceStep : Settings → Env → OpenLogin → Option Mechanism → Step
ChoiceStep s env login None =
    Always (says env (LoggingIn login) (replies.MechanismNotOffered ∷ []))
ChoiceStep s env login (Some mechanisms.Anonymous) = LoggedIn s env login.client login.waiting
ChoiceStep s env login (Some mechanisms.CramMd5) = Always (challenges s env login)
ChoiceStep s env login (Some mechanisms.External) =
    LoggedIn s env (as_account login.client s.account) None

abbrev pub LoginStep : Settings → Env → OpenLogin → Result AuthResponse CommandFault → Step
LoginStep s env login (Ok r) =
    ChoiceStep s env login (chosen (offer s.account s.users login.waiting) r.mechanism)
LoginStep s env login (Err fault) = Always (malformed env)

-- ---- a challenge is answered

abbrev pub logins_or_none : Option (List Login) → List Login
logins_or_none None = []
logins_or_none (Some users) = users

abbrev pub with_user : Client → List ℕ → Client
with_user client name = record client { user = Some name }

-- after an answer that is no user's another choice is awaited
abbrev pub OutcomeStep : Settings → Env → OpenLogin → Option (List ℕ) → Step
OutcomeStep s env login None = Always (says env (LoggingIn login) (replies.LoginFailed ∷ []))
OutcomeStep s env login (Some name) = LoggedIn s env (with_user login.client name) login.waiting

-- the answer is judged by whose it is; what is no string is no answer
abbrev pub ChallengeStep : Settings → Env → OpenChallenge → Option (List ℕ) → Step
ChallengeStep s env pending None halted c a = a ≡ malformed env
ChallengeStep s env pending (Some text) halted c a =
    (user : Option (List ℕ)) × IsAnswerOf pending.challenge (logins_or_none s.users) text user
    × OutcomeStep s env pending.login user halted c a
