-- What an input does to the repository: what its session asks for by it.
use Rattle.std.proofs.Common.{◌≡◌, ◌⊎◌, inl, inr, ℕ, zero, suc, ◌&&◌, ◌||◌, not, List, [], ◌∷◌, ◌++◌, Contains, Bool, true, false, Option, Some, None, refl, ap}
use Rattle.std.proofs.{Common.{subst, sym, ◌∙◌, length, append_assoc, arith}, lemmas.Bool.true≢false}
use Rattle.std.specs.Prelude.{Result, Ok, Err, if◌then◌else◌, codes}
use Rattle.svnpath.specs.{Paths.PathValue, Texts.joined, Urls.{path_of_text, root_of_text}, declared.fault.PathFault.PathFault}
use Rattle.dates.specs.Dates.{IsDateText}
use Rattle.cram.specs.Login.{Login}
use Rattle.items.specs.Values.{ItemValue}
use Rattle.refusals.specs.declared.Refusal.{Refusal}
use Rattle.access.specs.Changing.{wants_release}
use Rattle.repo_api.specs.{Accepted.{Accepted, AreAccepted, changed_all, IsAccepted}, Accepted.Accepted.{ChangesProperty, Commits, Locks, Releases, Unlocks}}
use Rattle.repo_api.specs.{Commits.{commit_refusal, committed}, Locking.{lock_refusal, releases, unlock_refusal}, RevisionProperties.property_refusal}
use Rattle.repo_api.specs.{States.{RepoState, TxnState}, declared.ask.CommitAsk.CommitAsk, declared.property_ask.PropertyAsk.PropertyAsk}
use Rattle.wire_forms.specs.{Forms.is_name, declared.fault.CommandFault.CommandFault}
use Rattle.wire_forms.specs.declared.fault.CommandFault.TheVariants.{UnknownName, BadParameters, NoMemory}
use Rattle.commands.specs.{Commands.main_command, Logins.{client_greeting, auth_response, challenge_answer}, declared.command.MainCommand.MainCommand}
use Rattle.commands.specs.declared.command.MainCommand.TheVariants.{Read, Drive, Commit, AbortEdit, Lock as LockPath, Unlock as UnlockPath, ChangeRevProp}
use Rattle.commands.specs.{declared.command.MainCommand.TheVariants.Reparent, declared.command.LockCommand.LockCommand}
use Rattle.commands.specs.{declared.command.UnlockCommand.UnlockCommand, declared.login.AuthResponse.AuthResponse, declared.login.ClientGreeting.ClientGreeting}
use Rattle.wire_edits.specs.{Editing.{editor_command, ends_edit}, declared.editing.EditorCommand.EditorCommand}
use Rattle.wire_edits.specs.declared.editing.EditorCommand.TheVariants as edits
use Rattle.reporter.specs.{Reporting.{Drawn, client_answer}, Reporting.Drawn.{GoesOn, GivenUp, Fails as Draws, Drives, Malformed}}
use Rattle.reporter.specs.{declared.answering.ClientAnswer.ClientAnswer, declared.answering.ClientAnswer.TheVariants.Taken}
use Rattle.reporter.specs.declared.answering.ClientAnswer.TheVariants as answers
use Rattle.edit_rules.specs.Editor.{finished}
use Rattle.wire_replies.specs.{declared.reply.Reply.Reply, declared.reply.Reply.TheVariants.{Success, NoLogin, CommitInfo}}
use Rattle.machine.specs.Answers.{Answer, Behind, behind, change_answer, ChangeStep, content_after, is_halt, IsOfChange, says, Step, Verdict}
use Rattle.machine.specs.{Answers.Verdict.{NotWritten, Unknown, Written}, Commands.{asked_by, commit_begins, is_long_comment, lock_answer, lock_ask}}
use Rattle.machine.specs.Commands.{lock_tokens, LockingStep, LockStep, DatingStep, login_request, OwnStep, PropertyStep, reparented, unlock_ask, UnlockStep}
use Rattle.machine.specs.{Dates.is_refused_date, Hearing.Input, Hearing.Input.{Broken, Whole}}
use Rattle.machine.specs.Logins.{ChallengeStep, ChoiceStep, chosen, greeting_answer, LoggedIn, LoginStep, offer, speaks, url_answer, wants_user, with_user}
use Rattle.machine.specs.Machine.{CloseStep, CommandStep, commit_ask, CommitStep, CommittedStep, EditingStep, ending_of, InputStep, IsReleaseOf, JudgedEdit}
use Rattle.machine.specs.Machine.{KnownCommand, MachineEdit, MainStep, Release, release_effect, release_fails, skipping_answer, unreleased_answer}
use Rattle.machine.specs.{Machine.UnreleasedStep, Machine.Release.{InDoubt, NotReleased, Released, Stays}, Reports.{drawn_answer, driven_answer}}
use Rattle.machine.specs.{Settings.Settings, Stages.Stage, declared.commit_parameters.CommitParameters.CommitParameters, declared.env.Env.Env}
use Rattle.machine.specs.{declared.login.Mechanism.Mechanism, declared.login.OpenLogin.OpenLogin, declared.login.OpenChallenge.OpenChallenge}
use Rattle.machine.specs.declared.phase.Phase.TheVariants.{Greeted, LoggingIn, Challenged, Serving, Editing, Skipping, Reporting, Driven, Ended}
use Rattle.machine.specs.declared.phase.Client.{Client}
use Rattle.machine.specs.declared.login.Mechanism.TheVariants as mechanisms
use Rattle.hub.specs.{Asked.{IsAskedBy, IsOfEdit, IsWaiting, IsAsked, AreAll}, Laws.{EndsWith, IsFailure, release_behind, IsTold, UsesWord}}
use Rattle.hub.proofs.Revising.{AreOthers}

-- ---- replies without a failure

abbrev pub IsPlain : Reply → Type 0
IsPlain reply = IsFailure reply → ⊥

abbrev pub ArePlain : List Reply → Type 0
ArePlain [] = Unit {0}
ArePlain (reply ∷ told) = IsPlain reply × ArePlain told

pub no_failure : (told : List Reply) (reply : Reply) → ArePlain told → Contains told reply → IsFailure reply → ⊥
no_failure [] reply plain (k, lt, e) fails = absurd (omega (arith, lt))
no_failure (first ∷ told) reply plain (zero, lt, e) fails = plain.0 (subst IsFailure (sym e) fails)
no_failure (first ∷ told) reply plain (suc k, lt, e) fails = no_failure told reply plain.1 (k, omega (arith, lt), e) fails

plain_all : (told more : List Reply) → ArePlain told → ArePlain more → ArePlain (told ++ more)
plain_all [] more plain rest = rest
plain_all (reply ∷ told) more plain rest = (plain.0, plain_all told more plain.1 rest)

plain_request : (command : MainCommand) → ArePlain (login_request command)
plain_request (Read command) = (λ fails. fails, tt)
plain_request (Drive command) = (λ fails. fails, tt)
plain_request (Commit command) = (λ fails. fails, tt)
plain_request AbortEdit = tt
plain_request (LockPath command) = (λ fails. fails, tt)
plain_request (UnlockPath command) = (λ fails. fails, tt)
plain_request (ChangeRevProp command) = (λ fails. fails, tt)
plain_request (Reparent url) = (λ fails. fails, tt)

-- ---- what an answer does

-- where the store has failed so that nobody knows, the change was asked for, and the rules accept it
abbrev pub Halts : (Accepted → Type 0) → Bool → RepoState → Verdict → Type 0
Halts P halted c Written = Unit {0}
Halts P halted c NotWritten = Unit {0}
Halts P halted c (Unknown e) = (halted ≡ false) × P e × IsAccepted c e

-- whether the store has failed
abbrev pub fails_by : Verdict → Bool
fails_by Written = false
fails_by NotWritten = true
fails_by (Unknown e) = true

pub or_false : (b : Bool) → (b || false) ≡ b
or_false true = refl
or_false false = refl

-- of the changes of an answer, `P` says of each that it was asked for
pub record Does (P : Accepted → Type 0) (may halted : Bool) (env : Env) (c : RepoState) (a : Answer) : Type 0 where
  pub own : AreAll P a.effect.changes
  pub accepted : AreAccepted c a.effect.changes
  pub told : IsTold c (fails_by a.effect.store) a.effect.changes a.replies
  pub words : UsesWord env a.effect.changes a.env
  -- a property of a revision is only changed where clients may change them
  pub closed : may ≡ false → AreOthers a.effect.changes
  pub plain : (a.effect.changes ≡ []) ⊎ ((halted ≡ false) × ArePlain a.replies)
  pub halt : Halts P halted (content_after c a.effect) a.effect.store

-- an answer that changes nothing, brings nothing to a halt, and uses no word for a token
abbrev Quiet : Env → Answer → Type 0
Quiet env a = (a.effect.changes ≡ []) × (is_halt a.effect.store ≡ false) × (a.env.token ≡ env.token)

no_halt : (P : Accepted → Type 0) (halted : Bool) (c : RepoState) (v : Verdict) → is_halt v ≡ false → Halts P halted c v
no_halt P halted c Written goes = tt
no_halt P halted c NotWritten goes = tt
no_halt P halted c (Unknown e) goes = absurd (true≢false goes)

pub halts_as : (P Q : Accepted → Type 0) (halted : Bool) (c : RepoState) (v : Verdict) → ((e : Accepted) → P e → Q e) → Halts P halted c v → Halts Q halted c v
halts_as P Q halted c Written on h = tt
halts_as P Q halted c NotWritten on h = tt
halts_as P Q halted c (Unknown e) on (running, one, accepted) = (running, on e one, accepted)

quiet : {P : Accepted → Type 0} {may halted : Bool} {env : Env} {c : RepoState} (a b : Answer) → a ≡ b → Quiet env b → Does P may halted env c a
quiet {P} {may} {halted} {env} {c} a b is q =
    let none : [] ≡ a.effect.changes = sym (ap (λ (x : Answer). x.effect.changes) is ∙ q.0) in
    record {
      own = subst (λ (es : List Accepted). AreAll P es) none tt;
      accepted = subst (λ (es : List Accepted). AreAccepted c es) none tt;
      told = subst (λ (es : List Accepted). IsTold c (fails_by a.effect.store) es a.replies) none tt;
      words = subst (λ (es : List Accepted). UsesWord env es a.env) none (ap (λ (x : Answer). x.env.token) is ∙ q.2);
      closed = λ shut. subst AreOthers none tt;
      plain = inl (sym none);
      halt = no_halt P halted (content_after c a.effect) a.effect.store (ap (λ (x : Answer). is_halt x.effect.store) is ∙ q.1);
    }

-- what is asked for in one way is asked for in another
pub all_on : (P Q : Accepted → Type 0) (es : List Accepted) → ((e : Accepted) → P e → Q e) → AreAll P es → AreAll Q es
all_on P Q [] on all = tt
all_on P Q (e ∷ es) on (one, all) = (on e one, all_on P Q es on all)

does_as : {may halted : Bool} {env : Env} {c : RepoState} (P Q : Accepted → Type 0) (a : Answer) → ((e : Accepted) → P e → Q e) → Does P may halted env c a → Does Q may halted env c a
does_as {may} {halted} {env} {c} P Q a on d = record {
  own = all_on P Q a.effect.changes on d.own;
  accepted = d.accepted;
  told = d.told;
  words = d.words;
  closed = d.closed;
  plain = d.plain;
  halt = halts_as P Q halted (content_after c a.effect) a.effect.store on d.halt;
}

does_is : (P : Accepted → Type 0) (may halted : Bool) (env : Env) (c : RepoState) (a b : Answer) → a ≡ b → Does P may halted env c b → Does P may halted env c a
does_is P may halted env c a b is d = subst (λ (x : Answer). Does P may halted env c x) (sym is) d

-- ---- what is told before

ends_behind : (told all : List Reply) (reply : Reply) → EndsWith all reply → EndsWith (told ++ all) reply
ends_behind told all reply (before, is) =
    (told ++ before, ap (λ (xs : List Reply). told ++ xs) is ∙ sym (append_assoc told before (reply ∷ [])))

told_behind : (c : RepoState) (failed : Bool) (es : List Accepted) (told all : List Reply) → IsTold c failed es all → IsTold c failed es (told ++ all)
told_behind c failed [] told all is = tt
told_behind c failed (Commits ask t ∷ es) told all (wanted, behind, ends) = (wanted, behind, ends_behind told all _ ends)
told_behind c failed (Locks ask ∷ es) told all (none, ends) = (none, ends_behind told all _ ends)
told_behind c failed (Unlocks ask ∷ es) told all (none, ends) = (none, ends_behind told all _ ends)
told_behind c failed (Releases user tokens ∷ es) told all bad = bad
told_behind c failed (ChangesProperty ask ∷ es) told all (none, ends) = (none, ends_behind told all _ ends)

does_behind : (P : Accepted → Type 0) (may halted : Bool) (env : Env) (c : RepoState) (told : List Reply) (own : Step) (a : Answer)
    → ArePlain told → ((b : Answer) → own halted c b → Does P may halted env c b) → Behind told own halted c a → Does P may halted env c a
does_behind P may halted env c told own a plain each (b, step, is) =
    let d = each b step in
    does_is P may halted env c a (behind told b) is (record {
      own = d.own;
      accepted = d.accepted;
      told = told_behind c (fails_by b.effect.store) b.effect.changes told b.replies d.told;
      words = d.words;
      closed = d.closed;
      plain = still d.plain;
      halt = d.halt;
    })
  where
    still : (b.effect.changes ≡ []) ⊎ ((halted ≡ false) × ArePlain b.replies) → (b.effect.changes ≡ []) ⊎ ((halted ≡ false) × ArePlain (told ++ b.replies))
    still (inl none) = inl none
    still (inr (running, others)) = inr (running, plain_all told b.replies plain others)

-- ---- answers that change nothing

quiet_url : (s : Settings) (env : Env) (g : ClientGreeting) (path : Result PathValue PathFault) (root : Result (List ℕ) PathFault) → Quiet env (url_answer s env g path root)
quiet_url s env g (Ok path) (Ok root) = (refl, refl, refl)
quiet_url s env g (Ok path) (Err fault) = (refl, refl, refl)
quiet_url s env g (Err fault) root = (refl, refl, refl)

quiet_if : (env : Env) (b : Bool) (x y : Answer) → Quiet env x → Quiet env y → Quiet env (if b then x else y)
quiet_if env true x y p q = p
quiet_if env false x y p q = q

quiet_greeting : (s : Settings) (env : Env) (r : Result ClientGreeting CommandFault) → Quiet env (greeting_answer s env r)
quiet_greeting s env (Ok g) =
    let path = path_of_text g.url s.name in
    let root = root_of_text g.url s.name in
    quiet_if env (speaks g) (url_answer s env g path root) (says env Ended []) (quiet_url s env g path root) (refl, refl, refl)
quiet_greeting s env (Err fault) = (refl, refl, refl)

quiet_begins : (s : Settings) (env : Env) (client : Client) (r : Result CommitParameters Refusal) → Quiet env (commit_begins s env client r)
quiet_begins s env client (Ok asked) = (refl, refl, refl)
quiet_begins s env client (Err r) = (refl, refl, refl)

quiet_reparented : (env : Env) (client : Client) (path : Result PathValue PathFault) → Quiet env (reparented env client path)
quiet_reparented env client (Ok path) = (refl, refl, refl)
quiet_reparented env client (Err fault) = (refl, refl, refl)

quiet_skipping : (env : Env) (client : Client) (ends : Option Bool) → Quiet env (skipping_answer env client ends)
quiet_skipping env client None = (refl, refl, refl)
quiet_skipping env client (Some true) = (refl, refl, refl)
quiet_skipping env client (Some false) = (refl, refl, refl)

quiet_drawn : (env : Env) (client : Client) (d : Drawn) → Quiet env (drawn_answer env client d)
quiet_drawn env client (GoesOn report) = (refl, refl, refl)
quiet_drawn env client GivenUp = (refl, refl, refl)
quiet_drawn env client (Draws r path) = (refl, refl, refl)
quiet_drawn env client (Drives drive) = (refl, refl, refl)
quiet_drawn env client Malformed = (refl, refl, refl)

quiet_driven : (env : Env) (client : Client) (answer : Option ClientAnswer) → Quiet env (driven_answer env client answer)
quiet_driven env client None = (refl, refl, refl)
quiet_driven env client (Some Taken) = (refl, refl, refl)
quiet_driven env client (Some (answers.GivenUp links)) = (refl, refl, refl)

-- ---- changes of locks, and of properties of revisions

does_change : (P : Accepted → Type 0) (may halted : Bool) (env : Env) (c : RepoState) (client : Client) (judged r : Option Refusal) (e : Accepted) (answer : Verdict → Answer) (a : Answer)
    → judged ≡ r → (judged ≡ None → (v : Verdict) → IsOfChange e v → Does P may false env c (answer v)) → ChangeStep halted env client r e answer a → Does P may halted env c a
does_change P may true env c client judged r e answer a same each is = quiet a _ is (refl, refl, refl)
does_change P may false env c client judged (Some r) e answer a same each is = quiet a _ is (refl, refl, refl)
does_change P may false env c client judged None e answer a same each (v, of, is) = does_is P may false env c a (answer v) is (each same v of)

-- the store failed as the change was being saved, and changed nothing
fails_at : (P : Accepted → Type 0) (may : Bool) (env : Env) (c : RepoState) (client : Client) (e : Accepted) (told : List Reply) → Does P may false env c (change_answer env client e told NotWritten)
fails_at P may env c client e told = quiet _ _ refl (refl, refl, refl)

-- or so that nobody knows
halts_at : (P : Accepted → Type 0) (may : Bool) (env : Env) (c : RepoState) (client : Client) (e x : Accepted) (told : List Reply) → P e → IsAccepted c e → x ≡ e
    → Does P may false env c (change_answer env client e told (Unknown x))
halts_at P may env c client e x told one accepted is = record {
  own = tt;
  accepted = tt;
  told = tt;
  words = refl;
  closed = λ shut. tt;
  plain = inl refl;
  halt = (refl, subst P (sym is) one, subst (λ (y : Accepted). IsAccepted c y) (sym is) accepted);
}

locks : (may : Bool) (env : Env) (c : RepoState) (client : Client) (command : LockCommand) (path : PathValue) (date : List ℕ) → joined client.path command.path ≡ Ok path
    → IsDateText env.moment date → (let ask = lock_ask env client command path date in
    lock_refusal c ask ≡ None → (v : Verdict) → IsOfChange (Locks ask) v → Does (IsAskedBy may env client (LockPath command)) may false env c (lock_answer env client ask v))
locks may env c client command path date named dated accepted Written of = record {
  own = ((command, refl, path, named, date, dated, refl), tt);
  accepted = (accepted, tt);
  told = (refl, ([], refl));
  words = (refl, refl);
  closed = λ shut. (tt, tt);
  plain = inr (refl, (λ fails. fails, tt));
  halt = tt;
}
locks may env c client command path date named dated accepted NotWritten of =
    fails_at (IsAskedBy may env client (LockPath command)) may env c client (Locks (lock_ask env client command path date)) []
locks may env c client command path date named dated accepted (Unknown x) of =
    halts_at (IsAskedBy may env client (LockPath command)) may env c client (Locks (lock_ask env client command path date)) x [] (command, refl, path, named, date, dated, refl) accepted of

does_locking : (may halted : Bool) (env : Env) (c : RepoState) (client : Client) (command : LockCommand) (path : Result PathValue PathFault) (a : Answer)
    → joined client.path command.path ≡ path → LockingStep env client command path halted c a → Does (IsAskedBy may env client (LockPath command)) may halted env c a
does_locking may halted env c client command (Ok path) a named (date, dated, step) =
    let ask = lock_ask env client command path date in
    does_change (IsAskedBy may env client (LockPath command)) may halted env c client (lock_refusal c ask) (lock_refusal c ask) (Locks ask) (lock_answer env client ask) a refl
    (locks may env c client command path date named dated) step
does_locking may halted env c client command (Err fault) a named is = quiet a _ is (refl, refl, refl)

does_lock : (long may halted : Bool) (env : Env) (c : RepoState) (client : Client) (command : LockCommand) (path : Result PathValue PathFault) (a : Answer)
    → joined client.path command.path ≡ path → LockStep long env client command path halted c a → Does (IsAskedBy may env client (LockPath command)) may halted env c a
does_lock false may halted env c client command path a named step = does_locking may halted env c client command path a named step
does_lock true may halted env c client command path a named is = quiet a _ is (refl, refl, refl)

unlocks : (may : Bool) (env : Env) (c : RepoState) (client : Client) (command : UnlockCommand) (path : PathValue) → joined client.path command.path ≡ Ok path
    → (let ask = unlock_ask client command path in
    unlock_refusal c ask ≡ None → (v : Verdict) → IsOfChange (Unlocks ask) v → Does (IsAskedBy may env client (UnlockPath command)) may false env c (change_answer env client (Unlocks ask) (Success ∷ []) v))
unlocks may env c client command path named accepted Written of = record {
  own = ((command, refl, path, named, refl), tt);
  accepted = (accepted, tt);
  told = (refl, ([], refl));
  words = refl;
  closed = λ shut. (tt, tt);
  plain = inr (refl, (λ fails. fails, tt));
  halt = tt;
}
unlocks may env c client command path named accepted NotWritten of =
    fails_at (IsAskedBy may env client (UnlockPath command)) may env c client (Unlocks (unlock_ask client command path)) (Success ∷ [])
unlocks may env c client command path named accepted (Unknown x) of =
    halts_at (IsAskedBy may env client (UnlockPath command)) may env c client (Unlocks (unlock_ask client command path)) x (Success ∷ []) (command, refl, path, named, refl) accepted of

does_unlock : (may halted : Bool) (env : Env) (c : RepoState) (client : Client) (command : UnlockCommand) (path : Result PathValue PathFault) (a : Answer)
    → joined client.path command.path ≡ path → UnlockStep env client command path halted c a → Does (IsAskedBy may env client (UnlockPath command)) may halted
    env c a
does_unlock may halted env c client command (Ok path) a named step =
    let ask = unlock_ask client command path in
    does_change (IsAskedBy may env client (UnlockPath command)) may halted env c client (unlock_refusal c ask) (unlock_refusal c ask) (Unlocks ask)
    (change_answer env client (Unlocks ask) (Success ∷ [])) a refl (unlocks may env c client command path named) step
does_unlock may halted env c client command (Err fault) a named is = quiet a _ is (refl, refl, refl)

revises : (env : Env) (c : RepoState) (client : Client) (ask : PropertyAsk) → property_refusal c ask ≡ None
    → (v : Verdict) → IsOfChange (ChangesProperty ask) v → Does (IsAskedBy true env client (ChangeRevProp ask)) true false env c (change_answer env client (ChangesProperty ask) (Success ∷ []) v)
revises env c client ask accepted Written of = record {
  own = ((refl, refl), tt);
  accepted = (accepted, tt);
  told = (refl, ([], refl));
  words = refl;
  closed = λ shut. absurd (true≢false shut);
  plain = inr (refl, (λ fails. fails, tt));
  halt = tt;
}
revises env c client ask accepted NotWritten of =
    fails_at (IsAskedBy true env client (ChangeRevProp ask)) true env c client (ChangesProperty ask) (Success ∷ [])
revises env c client ask accepted (Unknown x) of =
    halts_at (IsAskedBy true env client (ChangeRevProp ask)) true env c client (ChangesProperty ask) x (Success ∷ []) (refl, refl) accepted of

does_dating : (refused halted : Bool) (env : Env) (c : RepoState) (client : Client) (ask : PropertyAsk) (a : Answer)
    → DatingStep refused env client ask halted c a → Does (IsAskedBy true env client (ChangeRevProp ask)) true halted env c a
does_dating true halted env c client ask a is = quiet a _ is (refl, refl, refl)
does_dating false halted env c client ask a step =
    does_change (IsAskedBy true env client (ChangeRevProp ask)) true halted env c client (property_refusal c ask) (property_refusal c ask)
    (ChangesProperty ask) (change_answer env client (ChangesProperty ask) (Success ∷ [])) a refl (revises env c client ask) step

does_property : (may halted : Bool) (env : Env) (c : RepoState) (client : Client) (ask : PropertyAsk) (a : Answer)
    → PropertyStep may env client ask halted c a → Does (IsAskedBy may env client (ChangeRevProp ask)) may halted env c a
does_property false halted env c client ask a is = quiet a _ is (refl, refl, refl)
does_property true halted env c client ask a step = does_dating (is_refused_date client.is_of_today ask) halted env c client ask a step

-- ---- commands

abbrev ByCommand : Bool → Settings → Env → RepoState → Client → MainCommand → Answer → Type 0
ByCommand halted s env c client command a = Does (IsAskedBy s.revprops env client command) s.revprops halted env c a

own : (halted : Bool) (s : Settings) (env : Env) (c : RepoState) (client : Client) (command : MainCommand) (a : Answer)
    → OwnStep s env client command halted c a → ByCommand halted s env c client command a
own halted s env c client (Read command) a is = quiet a _ is (refl, refl, refl)
own halted s env c client (Drive command) a is = quiet a _ is (refl, refl, refl)
own halted s env c client (Commit command) a is = quiet a _ is (quiet_begins s env client (asked_by command (lock_tokens client.path command.tokens)))
own halted s env c client AbortEdit a is = quiet a _ is (refl, refl, refl)
own halted s env c client (LockPath command) a step =
    does_lock (is_long_comment command.comment) s.revprops halted env c client command (joined client.path command.path) a refl step
own halted s env c client (UnlockPath command) a step = does_unlock s.revprops halted env c client command (joined client.path command.path) a refl step
own halted s env c client (ChangeRevProp ask) a step = does_property s.revprops halted env c client ask a step
own halted s env c client (Reparent url) a is = quiet a _ is (quiet_reparented env client (path_of_text url s.name))

does_known : (waits halted : Bool) (s : Settings) (env : Env) (c : RepoState) (client : Client) (command : MainCommand) (a : Answer)
    → KnownCommand waits s env client command halted c a
    → Does (λ e. (waits ≡ false) × IsAskedBy s.revprops env client command e) s.revprops halted env c a
does_known true halted s env c client command a is = quiet a _ is (refl, refl, refl)
does_known false halted s env c client command a step =
    does_as (IsAskedBy s.revprops env client command) (λ e. (false ≡ false) × IsAskedBy s.revprops env client command e) a (λ e one. (refl, one))
    (does_behind (IsAskedBy s.revprops env client command) s.revprops halted env c (login_request command) (OwnStep s env client command) a (plain_request command)
    (own halted s env c client command) step)

does_main : (halted : Bool) (s : Settings) (env : Env) (c : RepoState) (client : Client) (t : ItemValue) (r : Result MainCommand CommandFault) (a : Answer)
    → main_command client.is_of_today t ≡ r → MainStep s env client r halted c a → Does (IsAsked s env (Serving client) (Whole t)) s.revprops halted env c a
does_main halted s env c client t (Ok command) a named step =
    does_as (λ e. (wants_user s client command ≡ false) × IsAskedBy s.revprops env client command e) (IsAsked s env (Serving client) (Whole t)) a
    (λ e one. (command, named, one.0, one.1))
    (does_known (wants_user s client command) halted s env c client command a step)
does_main halted s env c client t (Err UnknownName) a named is = quiet a _ is (refl, refl, refl)
does_main halted s env c client t (Err BadParameters) a named is = quiet a _ is (refl, refl, refl)
does_main halted s env c client t (Err NoMemory) a named is = quiet a _ is (refl, refl, refl)

-- ---- logins

does_logged_in : (halted : Bool) (s : Settings) (env : Env) (c : RepoState) (client : Client) (waiting : Option MainCommand) (a : Answer)
    → LoggedIn s env client waiting halted c a → Does (IsWaiting s.revprops env client waiting) s.revprops halted env c a
does_logged_in halted s env c client None a is = quiet a _ is (refl, refl, refl)
does_logged_in halted s env c client (Some command) a step =
    does_as (IsAskedBy s.revprops env client command) (IsWaiting s.revprops env client (Some command)) a (λ e one. (command, refl, one))
    (does_behind (IsAskedBy s.revprops env client command) s.revprops halted env c (Success ∷ []) (OwnStep s env client command) a (λ fails. fails, tt)
    (own halted s env c client command) step)

-- what is a login of nobody, and what is not
abbrev is_nobody : Option Mechanism → Bool
is_nobody None = false
is_nobody (Some mechanisms.Anonymous) = true
is_nobody (Some mechanisms.CramMd5) = false
is_nobody (Some mechanisms.External) = false

user_or_none : (b : Bool) → is_nobody (if b then Some mechanisms.CramMd5 else None) ≡ false
user_or_none true = refl
user_or_none false = refl

-- where there are users, nobody's login makes no command go on that waits for one
no_users : (account : Option (List ℕ)) (users : Option (List Login)) (command : MainCommand) (name : List ℕ)
    → chosen (offer account users (Some command)) name ≡ Some mechanisms.Anonymous → users ≡ None
no_users account None command name is = refl
no_users account (Some users) command name is =
    absurd (true≢false (sym (ap is_nobody is) ∙ user_or_none (is_name name (codes "CRAM-MD5"))))

-- what nobody's login makes go on is asked for where there are no users
of_nobody : (s : Settings) (env : Env) (login : OpenLogin) (name : List ℕ) (e : Accepted)
    → (chosen (offer s.account s.users login.waiting) name ≡ Some mechanisms.Anonymous) × IsWaiting s.revprops env login.client login.waiting e
    → (s.users ≡ None) × IsWaiting s.revprops env login.client login.waiting e
of_nobody s env login name e (chose, waiting) =
    let (command, waits, asked) = waiting in (
      no_users s.account s.users command name (subst (λ (w : Option MainCommand). chosen (offer s.account s.users w) name ≡ Some mechanisms.Anonymous) waits chose),
      waiting,
    )

does_choice : (halted : Bool) (s : Settings) (env : Env) (c : RepoState) (login : OpenLogin) (mechanism : Option Mechanism) (a : Answer)
    → ChoiceStep s env login mechanism halted c a
    → Does (λ e. (mechanism ≡ Some mechanisms.Anonymous) × IsWaiting s.revprops env login.client login.waiting e) s.revprops halted env c a
does_choice halted s env c login None a is = quiet a _ is (refl, refl, refl)
does_choice halted s env c login (Some mechanisms.Anonymous) a step =
    does_as (IsWaiting s.revprops env login.client login.waiting) (λ e. (Some mechanisms.Anonymous ≡ Some mechanisms.Anonymous) × IsWaiting s.revprops env login.client login.waiting e) a
    (λ e one. (refl, one)) (does_logged_in halted s env c login.client login.waiting a step)
does_choice halted s env c login (Some mechanisms.CramMd5) a is = quiet a _ is (refl, refl, refl)
does_choice halted s env c login (Some mechanisms.External) a is = quiet a _ is (refl, refl, refl)

does_login : (halted : Bool) (s : Settings) (env : Env) (c : RepoState) (login : OpenLogin) (t : ItemValue) (r : Result AuthResponse CommandFault) (a : Answer)
    → LoginStep s env login r halted c a → Does (IsAsked s env (LoggingIn login) (Whole t)) s.revprops halted env c a
does_login halted s env c login t (Ok r) a step =
    does_as (λ e. (chosen (offer s.account s.users login.waiting) r.mechanism ≡ Some mechanisms.Anonymous) × IsWaiting s.revprops env login.client login.waiting e)
    (IsAsked s env (LoggingIn login) (Whole t)) a
    (of_nobody s env login r.mechanism)
    (does_choice halted s env c login (chosen (offer s.account s.users login.waiting) r.mechanism) a step)
does_login halted s env c login t (Err fault) a is = quiet a _ is (refl, refl, refl)

does_challenge : (halted : Bool) (s : Settings) (env : Env) (c : RepoState) (pending : OpenChallenge) (t : ItemValue) (text : Option (List ℕ)) (a : Answer)
    → challenge_answer t ≡ text → ChallengeStep s env pending text halted c a → Does (IsAsked s env (Challenged pending) (Whole t)) s.revprops halted env c a
does_challenge halted s env c pending t None a named is = quiet a _ is (refl, refl, refl)
does_challenge halted s env c pending t (Some text) a named (None, whose, is) = quiet a _ is (refl, refl, refl)
does_challenge halted s env c pending t (Some text) a named (Some name, whose, step) =
    let client = with_user pending.login.client name in
    does_as (IsWaiting s.revprops env client pending.login.waiting) (IsAsked s env (Challenged pending) (Whole t)) a (λ e one. (text, named, name, whose, one))
    (does_logged_in halted s env c client pending.login.waiting a step)

-- ---- a commit

-- what is released behind it
release_is : (ask : CommitAsk) (wants : Bool) (release : Release) → IsReleaseOf wants release
    → (release_effect ask release).changes ≡ (if wants && not (release_fails release) then Releases ask.author ask.tokens ∷ [] else [])
release_is ask false Stays of = refl
release_is ask false Released of = absurd of
release_is ask false NotReleased of = absurd of
release_is ask false InDoubt of = absurd of
release_is ask true Stays of = absurd of
release_is ask true Released of = refl
release_is ask true NotReleased of = refl
release_is ask true InDoubt of = refl

-- only a release that is wanted fails
fails_wanted : (wants : Bool) (release : Release) → IsReleaseOf wants release → release_fails release ≡ true → wants ≡ true
fails_wanted false Stays of fails = fails
fails_wanted false Released of fails = absurd of
fails_wanted false NotReleased of fails = absurd of
fails_wanted false InDoubt of fails = absurd of
fails_wanted true _ of fails = refl

and_second : (a b : Bool) → (a && b) ≡ true → b ≡ true
and_second true b h = h
and_second false b h = cc

-- one that is wanted is accepted
release_accepted : (c : RepoState) (ask : CommitAsk) → wants_release ask c ≡ true → IsAccepted c (Releases ask.author ask.tokens)
release_accepted c ask e = and_second (not ask.keep_locks) (releases ask.author ask.tokens c.locks) e

-- one that is made is accepted, and is the user's, of the tokens that were handed in
release_does : (P : Accepted → Type 0) (c : RepoState) (ask : CommitAsk) (wants fails : Bool) → P (Releases ask.author ask.tokens) → wants_release ask c ≡ wants
    → (let es : List Accepted = if wants && not fails then Releases ask.author ask.tokens ∷ [] else [] in AreAll P es × AreAccepted c es × AreOthers es)
release_does P c ask true false one e = ((one, tt), (release_accepted c ask e, tt), (tt, tt))
release_does P c ask true true one e = (tt, tt, tt)
release_does P c ask false fails one e = (tt, tt, tt)

-- one of which nobody knows whether it is written brings changes to a halt
release_halts : (P : Accepted → Type 0) (c : RepoState) (ask : CommitAsk) (wants : Bool) (release : Release) → P (Releases ask.author ask.tokens) → wants_release ask c ≡ wants → IsReleaseOf wants release
    → (let effect = release_effect ask release in Halts P false (changed_all c effect.changes) effect.store)
release_halts P c ask wants Stays one e of = tt
release_halts P c ask wants Released one e of = tt
release_halts P c ask wants NotReleased one e of = tt
release_halts P c ask true InDoubt one e of = (refl, one, release_accepted c ask e)
release_halts P c ask false InDoubt one e of = absurd of

-- it is told that it has failed where the store has
release_told : (c : RepoState) (ask : CommitAsk) (t : TxnState) (release : Release) → (release_fails release ≡ true → wants_release ask (committed c ask t) ≡ true)
    → (release_effect ask release).changes ≡ release_behind c ask t (release_fails release)
    → IsTold c (fails_by (release_effect ask release).store) (Commits ask t ∷ (release_effect ask release).changes)
    (Success ∷ NoLogin ∷ CommitInfo (length c.revisions) ask.date ask.author (release_fails release) ∷ [])
release_told c ask t Stays wanted behind = (wanted, behind, (Success ∷ NoLogin ∷ [], refl))
release_told c ask t Released wanted behind = (wanted, behind, (Success ∷ NoLogin ∷ [], refl))
release_told c ask t NotReleased wanted behind = (wanted, behind, (Success ∷ NoLogin ∷ [], refl))
release_told c ask t InDoubt wanted behind = (wanted, behind, (Success ∷ NoLogin ∷ [], refl))

does_committed : {may : Bool} (env : Env) (c : RepoState) (edit : MachineEdit) (t : TxnState) (date : List ℕ) (v : Verdict) (a : Answer)
    → finished edit.editor ≡ Ok t → IsDateText env.moment date → (let ask = commit_ask edit.client edit.asked date in
    commit_refusal c ask t ≡ None → CommittedStep env c edit.client ask t v a → Does (IsOfEdit env edit) may false env c a)
does_committed {may} env c edit t date Written a txn dated accepted (release, of, is) =
    let ask = commit_ask edit.client edit.asked date in
    let after = committed c ask t in
    let wants = wants_release ask after in
    let behind = release_does (IsOfEdit env edit) after ask wants (release_fails release) (refl, refl) refl in
    let released = sym (release_is ask wants release of) in
    does_is (IsOfEdit env edit) may false env c a _ is (record {
      own = ((txn, date, dated, refl), subst (λ (es : List Accepted). AreAll (IsOfEdit env edit) es) released behind.0);
      accepted = (accepted, subst (λ (es : List Accepted). AreAccepted after es) released behind.1);
      told = release_told c ask t release (fails_wanted wants release of) (sym released);
      words = refl;
      closed = λ shut. (tt, subst AreOthers released behind.2);
      plain = inr (refl, (λ fails. fails, (λ fails. fails, (λ fails. fails, tt))));
      halt = release_halts (IsOfEdit env edit) after ask wants release (refl, refl) refl of;
    })
does_committed env c edit t date NotWritten a txn dated accepted is = quiet a _ is (refl, refl, refl)
does_committed {may} env c edit t date (Unknown x) a txn dated accepted (same, is) =
    let ask = commit_ask edit.client edit.asked date in
    does_is (IsOfEdit env edit) may false env c a _ is (halts_at (IsOfEdit env edit) may env c edit.client (Commits ask t) x [] (txn, date, dated, refl) accepted same)

does_commit : {may : Bool} (halted : Bool) (env : Env) (c : RepoState) (edit : MachineEdit) (t : TxnState) (date : List ℕ) (r : Option Refusal) (a : Answer)
    → finished edit.editor ≡ Ok t → IsDateText env.moment date → (let ask = commit_ask edit.client edit.asked date in
    commit_refusal c ask t ≡ r → CommitStep halted env c edit.client ask t r a → Does (IsOfEdit env edit) may halted env c a)
does_commit true env c edit t date r a txn dated judged is = quiet a _ is (refl, refl, refl)
does_commit false env c edit t date (Some r) a txn dated judged (path, at, is) = quiet a _ is (refl, refl, refl)
does_commit false env c edit t date None a txn dated judged (v, step) = does_committed env c edit t date v a txn dated judged step

does_close : {may : Bool} (halted : Bool) (env : Env) (c : RepoState) (edit : MachineEdit) (r : Result TxnState Refusal) (a : Answer)
    → finished edit.editor ≡ r → CloseStep env edit.client edit.asked r halted c a → Does (IsOfEdit env edit) may halted env c a
does_close halted env c edit (Ok t) a txn (date, dated, step) =
    does_commit halted env c edit t date (commit_refusal c (commit_ask edit.client edit.asked date) t) a txn dated refl step
does_close halted env c edit (Err r) a txn is = quiet a _ is (refl, refl, refl)

-- ---- an edit

does_edit : {P : Accepted → Type 0} {may halted : Bool} (env : Env) (c : RepoState) (edit : MachineEdit) (command : EditorCommand) (r : Option Refusal) (a : Answer)
    → JudgedEdit (Unit {0}) env c edit command r a → Does P may halted env c a
does_edit env c edit command None a (after, applies, is) = quiet a _ is (refl, refl, refl)
does_edit env c edit command (Some r) a is = quiet a _ is (refl, refl, refl)

abbrev InEdit : Settings → Bool → Bool → Env → RepoState → MachineEdit → ItemValue → Answer → Type 0
InEdit s may halted env c edit t a = Does (IsAsked s env (Editing edit) (Whole t)) may halted env c a

closes : {may halted : Bool} (s : Settings) (env : Env) (c : RepoState) (edit : MachineEdit) (t : ItemValue) (a : Answer) → editor_command t ≡ Ok edits.CloseEdit
    → Does (IsOfEdit env edit) may halted env c a → InEdit s may halted env c edit t a
closes s env c edit t a named d = does_as (IsOfEdit env edit) (IsAsked s env (Editing edit) (Whole t)) a (λ e one. (named, one)) d

does_command : {may : Bool} (halted : Bool) (s : Settings) (env : Env) (c : RepoState) (edit : MachineEdit) (t : ItemValue) (command : EditorCommand) (a : Answer)
    → editor_command t ≡ Ok command → CommandStep (Unit {0}) env edit command (ending_of command) halted c a → InEdit s may halted env c edit t a
does_command halted s env c edit t (edits.TargetRevision revision) a named step = does_edit env c edit (edits.TargetRevision revision) _ a step
does_command halted s env c edit t (edits.OpenRoot revision token) a named step = does_edit env c edit (edits.OpenRoot revision token) _ a step
does_command halted s env c edit t (edits.DeleteEntry entry) a named step = does_edit env c edit (edits.DeleteEntry entry) _ a step
does_command halted s env c edit t (edits.AddDirectory entry) a named step = does_edit env c edit (edits.AddDirectory entry) _ a step
does_command halted s env c edit t (edits.AddFile entry) a named step = does_edit env c edit (edits.AddFile entry) _ a step
does_command halted s env c edit t (edits.OpenDirectory entry) a named step = does_edit env c edit (edits.OpenDirectory entry) _ a step
does_command halted s env c edit t (edits.OpenFile entry) a named step = does_edit env c edit (edits.OpenFile entry) _ a step
does_command halted s env c edit t (edits.AbsentDirectory entry) a named step = does_edit env c edit (edits.AbsentDirectory entry) _ a step
does_command halted s env c edit t (edits.AbsentFile entry) a named step = does_edit env c edit (edits.AbsentFile entry) _ a step
does_command halted s env c edit t (edits.ChangeDirectoryProperty change) a named step = does_edit env c edit (edits.ChangeDirectoryProperty change) _ a step
does_command halted s env c edit t (edits.ChangeFileProperty change) a named step = does_edit env c edit (edits.ChangeFileProperty change) _ a step
does_command halted s env c edit t (edits.ApplyTextDelta token checksum) a named step = does_edit env c edit (edits.ApplyTextDelta token checksum) _ a step
does_command halted s env c edit t (edits.TextDeltaChunk token bytes) a named step = does_edit env c edit (edits.TextDeltaChunk token bytes) _ a step
does_command halted s env c edit t (edits.TextDeltaEnd token) a named step = does_edit env c edit (edits.TextDeltaEnd token) _ a step
does_command halted s env c edit t (edits.CloseDirectory token) a named step = does_edit env c edit (edits.CloseDirectory token) _ a step
does_command halted s env c edit t (edits.CloseFile token checksum) a named step = does_edit env c edit (edits.CloseFile token checksum) _ a step
does_command halted s env c edit t edits.CloseEdit a named step = closes s env c edit t a named (does_close halted env c edit (finished edit.editor) a refl step)
does_command halted s env c edit t edits.AbortEdit a named is = quiet a _ is (refl, refl, refl)

does_editing : {may : Bool} (halted : Bool) (s : Settings) (env : Env) (c : RepoState) (edit : MachineEdit) (t : ItemValue) (r : Result EditorCommand CommandFault) (a : Answer)
    → editor_command t ≡ r → EditingStep (Unit {0}) env edit r halted c a → InEdit s may halted env c edit t a
does_editing halted s env c edit t (Ok command) a named step = does_command halted s env c edit t command a named step
does_editing halted s env c edit t (Err UnknownName) a named is = quiet a _ is (refl, refl, refl)
does_editing halted s env c edit t (Err BadParameters) a named is = quiet a _ is (refl, refl, refl)
does_editing halted s env c edit t (Err NoMemory) a named is = quiet a _ is (refl, refl, refl)

-- ---- an input

pub does : (halted : Bool) (s : Settings) (env : Env) (c : RepoState) (phase : Stage) (input : Input) (a : Answer) → InputStep s env phase input halted c a
    → Does (IsAsked s env phase input) s.revprops halted env c a
does halted s env c Greeted (Whole t) a is = quiet a _ is (quiet_greeting s env (client_greeting t))
does halted s env c (LoggingIn login) (Whole t) a step = does_login halted s env c login t (auth_response t) a step
does halted s env c (Challenged pending) (Whole t) a step = does_challenge halted s env c pending t (challenge_answer t) a refl step
does halted s env c (Serving client) (Whole t) a step = does_main halted s env c client t (main_command client.is_of_today t) a refl step
does halted s env c (Editing edit) (Whole t) a step = does_editing halted s env c edit t (editor_command t) a refl step
does halted s env c (Skipping client) (Whole t) a is = quiet a _ is (quiet_skipping env client (ends_edit t))
does halted s env c (Reporting reporting) (Whole t) a (d, step, is) = quiet a _ is (quiet_drawn env reporting.client d)
does halted s env c (Driven client) (Whole t) a is = quiet a _ is (quiet_driven env client (client_answer t))
does halted s env c Greeted Broken a is = quiet a _ is (refl, refl, refl)
does halted s env c (LoggingIn login) Broken a is = quiet a _ is (refl, refl, refl)
does halted s env c (Challenged pending) Broken a is = quiet a _ is (refl, refl, refl)
does halted s env c (Serving client) Broken a is = quiet a _ is (refl, refl, refl)
does halted s env c (Editing edit) Broken a is = quiet a _ is (refl, refl, refl)
does halted s env c (Skipping client) Broken a is = quiet a _ is (refl, refl, refl)
does halted s env c (Reporting reporting) Broken a is = quiet a _ is (refl, refl, refl)
does halted s env c (Driven client) Broken a is = quiet a _ is (refl, refl, refl)
does halted s env c Ended input a is = quiet a _ is (refl, refl, refl)

-- a commit whose session is gone before the release
pub leaves : (halted : Bool) (s : Settings) (env : Env) (c : RepoState) (phase : Stage) (input : Input) (a : Answer) → UnreleasedStep env phase input halted c a
    → (ask : CommitAsk) × (t : TxnState) × (halted ≡ false) × IsAsked s env phase input (Commits ask t) × (commit_refusal c ask t ≡ None) × (wants_release ask (committed c ask t) ≡ true)
    × (a ≡ unreleased_answer env ask t)
leaves halted s env c (Editing edit) (Whole t) a (named, u) =
    (commit_ask edit.client edit.asked u.date, u.txn, u.running, (named, (u.txn_is, u.date, u.is_date, refl)), u.accepted, u.wanted, u.is)
leaves halted s env c (Editing edit) Broken a step = absurd step
leaves halted s env c Greeted input a step = absurd step
leaves halted s env c (LoggingIn login) input a step = absurd step
leaves halted s env c (Challenged pending) input a step = absurd step
leaves halted s env c (Serving client) input a step = absurd step
leaves halted s env c (Skipping client) input a step = absurd step
leaves halted s env c (Reporting reporting) input a step = absurd step
leaves halted s env c (Driven client) input a step = absurd step
leaves halted s env c Ended input a step = absurd step
