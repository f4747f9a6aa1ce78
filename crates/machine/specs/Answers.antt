-- What an input does: the replies, where the session stands then, the words that are left, and what
-- becomes of the repository.
use Rattle.std.specs.Prelude.{◌≡◌, ℕ, Bool, true, false, ◌&&◌, ◌||◌, List, [], ◌∷◌, ◌++◌, Option, Some, None, if◌then◌else◌}
use Rattle.svnpath.specs.Paths.{PathValue}
use Rattle.refusals.specs.{Table.says_path, declared.Refusal.Refusal}
use Rattle.refusals.specs.declared.Refusal.TheVariants as refusals
use Rattle.repo_api.specs.{Accepted.{Accepted, changed_all}, Accepted.Accepted.{Locks, Unlocks}, States.RepoState}
use Rattle.wire_replies.specs.declared.reply.Reply.{Reply}
use Rattle.wire_replies.specs.declared.reply.Reply.TheVariants as replies
use Rattle.access.specs.Points.{HasRisen}
use Rattle.machine.specs.{Stages.Stage, declared.env.Env.Env, declared.phase.Phase.TheVariants.{Serving, Ended}, declared.phase.Client.Client}

-- what the store did with a change: it wrote it; it failed, and nothing is written; or it failed as
-- this change was being saved, nobody knows whether it is written, and no change is made any more
pub data Verdict : Type 0 where
  Written : Verdict
  NotWritten : Verdict
  Unknown : Accepted → Verdict

-- what an input does to the repository: the changes that are accepted, one after another, and what
-- the store did
pub record Effect : Type 0 where
  pub changes : List Accepted
  pub store : Verdict

abbrev pub no_effect : Effect
no_effect = record { changes = []; store = Written }

-- the repository after an effect
abbrev pub content_after : RepoState → Effect → RepoState
content_after c effect = changed_all c effect.changes

abbrev pub is_halt : Verdict → Bool
is_halt Written = false
is_halt NotWritten = false
is_halt (Unknown e) = true

-- whether changes have come to a halt, after an effect
abbrev pub halted_after : Bool → Effect → Bool
halted_after halted effect = halted || is_halt effect.store

-- the change that was being saved when changes came to a halt, after what the store did
abbrev pub pending_by : Option Accepted → Verdict → Option Accepted
pending_by pending Written = pending
pending_by pending NotWritten = pending
pending_by pending (Unknown e) = Some e

abbrev pub pending_after : Option Accepted → Effect → Option Accepted
pending_after pending effect = pending_by pending effect.store

-- the store's count of failures before and after: it rises where the store fails
abbrev pub Counts : Verdict → ℕ → ℕ → Type 0
Counts Written before after = after ≡ before
Counts NotWritten before after = HasRisen before after
Counts (Unknown e) before after = HasRisen before after

-- what an input does: the replies, where the session stands then, the words that are left, and the
-- effect
pub record Answer : Type 0 where
  pub replies : List Reply
  pub phase : Stage
  pub env : Env
  pub effect : Effect

-- what an input may be answered, where changes have come to a halt or not, by what the repository
-- contains (a relation where the program or the store may choose)
abbrev pub Step : Type 1
Step = Bool → RepoState → Answer → Type 0

-- this answer
abbrev pub Always : Answer → Step
Always answer halted c a = a ≡ answer

-- an answer that what the repository contains decides
abbrev pub Shows : (RepoState → Answer) → Step
Shows answer halted c a = a ≡ answer c

-- replies that change nothing
abbrev pub says : Env → Stage → List Reply → Answer
says env phase told = record { replies = told; phase = phase; env = env; effect = no_effect }

-- what is no command ends the session
abbrev pub malformed : Env → Answer
malformed env = says env Ended (replies.Failure refusals.MalformedData None ∷ [])

-- a reply, after which commands are awaited
abbrev pub serves : Env → Client → Reply → Answer
serves env client reply = says env (Serving client) (reply ∷ [])

-- ---- refusals

-- the path that a client is told with a refusal: one of today alone, where the message says a path
abbrev pub told_path : Bool → Refusal → Option PathValue → Option PathValue
told_path is_of_today r None = None
told_path is_of_today r (Some path) = if is_of_today && says_path r then Some path else None

-- how a client is told of a refusal, of a command that is refused at this path, if it is one of a
-- path
abbrev pub failure_at : Bool → Refusal → Option PathValue → Reply
failure_at is_of_today r path = replies.Failure r (told_path is_of_today r path)

-- a command is refused at this path, and the next one is awaited
abbrev pub refuses : Env → Client → Refusal → Option PathValue → Answer
refuses env client r path = serves env client (failure_at client.is_of_today r path)

-- ---- a change

-- the path of the repository that a change is of, if it is of one
abbrev pub path_of_change : Accepted → Option PathValue
path_of_change (Locks ask) = Some ask.path
path_of_change (Unlocks ask) = Some ask.path
path_of_change _ = None

-- a change that the rules accept, and that is told so where it is made, by what the store says
abbrev pub change_answer : Env → Client → Accepted → List Reply → Verdict → Answer
change_answer env client e told Written = record {
  replies = told;
  phase = Serving client;
  env = env;
  effect = record { changes = e ∷ []; store = Written };
}
change_answer env client e told NotWritten = record {
  replies = replies.Failure refusals.StoreFailed None ∷ [];
  phase = Serving client;
  env = env;
  effect = record { changes = []; store = NotWritten };
}
change_answer env client e told (Unknown x) = record {
  replies = replies.Failure refusals.StoreFailed None ∷ [];
  phase = Ended;
  env = env;
  effect = record { changes = []; store = Unknown x };
}

-- what the store may say of a change: where nobody knows what is written, it is this very change
abbrev pub IsOfChange : Accepted → Verdict → Type 0
IsOfChange e Written = Unit {0}
IsOfChange e NotWritten = Unit {0}
IsOfChange e (Unknown x) = x ≡ e

-- a change that was judged so: a refused one changes nothing, and once changes
-- have come to a halt none is made, whatever the rules say of it; one that is accepted is answered
-- so, by what the store says
abbrev pub ChangeStep : Bool → Env → Client → Option Refusal → Accepted → (Verdict → Answer)
    → Answer → Type 0
ChangeStep true env client r e answer a =
    a ≡ says env Ended (replies.Failure refusals.StoreFailed None ∷ [])
ChangeStep false env client (Some r) e answer a = a ≡ refuses env client r (path_of_change e)
ChangeStep false env client None e answer a =
    (v : Verdict) × IsOfChange e v × (a ≡ answer v)

-- ---- what comes before

-- an answer behind other replies
abbrev pub behind : List Reply → Answer → Answer
behind told a = record a { replies = told ++ a.replies }

-- a step whose answer comes behind other replies
abbrev pub Behind : List Reply → Step → Step
Behind told step halted c a = (b : Answer) × step halted c b × (a ≡ behind told b)
