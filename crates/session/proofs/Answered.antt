-- Answers that change nothing.
use Rattle.std.proofs.Common.{◌≡◌, ℕ, List, [], Bool, true, false, Option, Some, None, refl}
use Rattle.std.specs.Prelude.{Result, Ok, Err, if◌then◌else◌}
use Rattle.svnpath.specs.{Paths.PathValue, Urls.{path_of_text, root_of_text}, declared.fault.PathFault.PathFault}
use Rattle.repo_api.specs.States.{RepoState}
use Rattle.wire_forms.specs.declared.fault.CommandFault.{CommandFault}
use Rattle.commands.specs.declared.login.ClientGreeting.{ClientGreeting}
use Rattle.reporter.specs.{declared.answering.ClientAnswer.ClientAnswer, declared.answering.ClientAnswer.TheVariants.Taken}
use Rattle.reporter.specs.declared.answering.ClientAnswer.TheVariants as answers
use Rattle.machine.specs.{Answers.{Answer, malformed, no_effect, says}, Hearing.Input.Broken, Logins.{greeting_answer, speaks, url_answer}}
use Rattle.machine.specs.{Machine.{InputStep, skipping_answer}, Reports.driven_answer, Settings.Settings, Stages.{is_open, Stage}, declared.env.Env.Env}
use Rattle.machine.specs.declared.phase.Client.{Client}
use Rattle.machine.specs.declared.phase.Phase.TheVariants.{Greeted, LoggingIn, Challenged, Serving, Editing, Skipping, Reporting, Driven, Ended}

nothing_if : (b : Bool) (x y : Answer) → x.effect ≡ no_effect → y.effect ≡ no_effect → (if b then x else y).effect ≡ no_effect
nothing_if true x y p q = p
nothing_if false x y p q = q

-- ---- the greeting

url_nothing : (s : Settings) (env : Env) (g : ClientGreeting) (path : Result PathValue PathFault) (root : Result (List ℕ) PathFault) → (url_answer s env g path root).effect ≡ no_effect
url_nothing s env g (Ok path) (Ok root) = refl
url_nothing s env g (Ok path) (Err fault) = refl
url_nothing s env g (Err fault) root = refl

pub greeting_nothing : (s : Settings) (env : Env) (r : Result ClientGreeting CommandFault) → (greeting_answer s env r).effect ≡ no_effect
greeting_nothing s env (Ok g) =
    let path = path_of_text g.url s.name in
    let root = root_of_text g.url s.name in
    nothing_if (speaks g) (url_answer s env g path root) (says env Ended []) (url_nothing s env g path root) refl
greeting_nothing s env (Err fault) = refl

-- ---- an edit that was given up

pub skipping_nothing : (env : Env) (client : Client) (ends : Option Bool) → (skipping_answer env client ends).effect ≡ no_effect
skipping_nothing env client None = refl
skipping_nothing env client (Some true) = refl
skipping_nothing env client (Some false) = refl

-- ---- the client's answer to a drive

pub driven_nothing : (env : Env) (client : Client) (answer : Option ClientAnswer) → (driven_answer env client answer).effect ≡ no_effect
driven_nothing env client None = refl
driven_nothing env client (Some Taken) = refl
driven_nothing env client (Some (answers.GivenUp links)) = refl

-- ---- a byte that goes on to no item

abbrev pub broken_answer : Env → Stage → Answer
broken_answer env phase = if is_open phase then malformed env else says env Ended []

pub broken_nothing : (env : Env) (phase : Stage) → (broken_answer env phase).effect ≡ no_effect
broken_nothing env phase = nothing_if (is_open phase) (malformed env) (says env Ended []) refl refl

pub step_broken : (halted : Bool) (s : Settings) (env : Env) (c : RepoState) (phase : Stage)
    → InputStep s env phase Broken halted c (broken_answer env phase)
step_broken halted s env c Greeted = refl
step_broken halted s env c (LoggingIn login) = refl
step_broken halted s env c (Challenged pending) = refl
step_broken halted s env c (Serving client) = refl
step_broken halted s env c (Editing edit) = refl
step_broken halted s env c (Skipping client) = refl
step_broken halted s env c (Reporting reporting) = refl
step_broken halted s env c (Driven client) = refl
step_broken halted s env c Ended = refl
