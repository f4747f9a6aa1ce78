-- What commands are answered, once nothing has to come before.
use Rattle.std.specs.Prelude.{◌≡◌, ℕ, ◌+◌, ◌%◌, ◌^◌, Bool, true, false, nat_lt, List, [], ◌∷◌, ◌++◌, length, Option, Some, None, option_map, Result, Ok, Err}
use Rattle.std.specs.{Prelude.{if◌then◌else◌, codes}, FinMap.get, Option.option_to_list, List.list_all}
use Rattle.svnpath.specs.{Paths.PathValue, Texts.joined, Urls.path_of_text, declared.fault.PathFault.PathFault}
use Rattle.refusals.specs.{declared.Refusal.Refusal, Refusing.path_refusal}
use Rattle.refusals.specs.declared.Refusal.TheVariants as refusals
use Rattle.repo_api.specs.{Accepted.Accepted.{ChangesProperty, Locks, Unlocks}, Judging.is_property_name, Kinds.{kind_at, properties_at}}
use Rattle.repo_api.specs.{Locking.{at_or_under, lock_of, lock_refusal, LockList, unlock_refusal}, Properties.{PropertyList, with_property}}
use Rattle.repo_api.specs.{RevisionProperties.property_refusal, States.{RepoState, youngest}, declared.lock_ask.LockAsk.LockAsk}
use Rattle.repo_api.specs.{declared.lock_ask.UnlockAsk.UnlockAsk, declared.property_ask.PropertyAsk.PropertyAsk}
use Rattle.dates.specs.Dates.{IsDateText}
use Rattle.commands.specs.{declared.command.CommitCommand.CommitCommand, declared.command.DriveCommand.DriveCommand}
use Rattle.commands.specs.{declared.command.DriveCommand.TheVariants.{Update, Switch, Status, Diff}, declared.command.MainCommand.MainCommand}
use Rattle.commands.specs.declared.command.MainCommand.TheVariants.{Read, Drive, Commit, AbortEdit, Lock, Unlock, ChangeRevProp, Reparent}
use Rattle.commands.specs.{declared.command.ReadCommand.ReadCommand, declared.command.ReadCommand.TheVariants.{GetLatestRev, CheckPath, RevProplist, GetLock}}
use Rattle.commands.specs.declared.command.ReadCommand.TheVariants.{GetLocks, GetFile, GetDir, Stat, GetDatedRev, RevProp, Log, GetLocations, History}
use Rattle.commands.specs.declared.command.HistoryCommand.{HistoryCommand}
use Rattle.commands.specs.declared.command.HistoryCommand.TheVariants.{GetLocationSegments, GetDeletedRev, GetFileRevs, Replay, ReplayRange}
use Rattle.commands.specs.{declared.command.LockCommand.LockCommand, declared.command.UnlockCommand.UnlockCommand}
use Rattle.wire_replies.specs.{Replies.uuid_text, declared.reply.Reply.Reply}
use Rattle.wire_replies.specs.declared.reply.Reply.TheVariants as replies
use Rattle.reporter.specs.{Refusing.{ask_of, begun_report}, declared.ask.DriveAsk.DriveAsk, declared.ask.Purpose.Purpose}
use Rattle.reporter.specs.declared.ask.Purpose.TheVariants as purposes
use Rattle.edit_rules.specs.Edits.{new_edit}
use Rattle.machine.specs.{Settings.Settings, Answers.{Verdict, Answer, Step, says, serves, change_answer, ChangeStep, Always, Shows}}
use Rattle.machine.specs.{Answers.Verdict.{Written, NotWritten, Unknown}, Dates.is_refused_date}
use Rattle.machine.specs.Histories.{all_joined, deleted_reply, file_revisions_replies, log_replies, locations_replies, segments_replies}
use Rattle.machine.specs.Replays.{replay_range_replies, replay_replies}
use Rattle.machine.specs.{Readings.{place_read, file_replies, directory_reply, stat_reply, dated_reply, property_reply}, declared.env.Env.Env}
use Rattle.machine.specs.{declared.commit_parameters.CommitParameters.CommitParameters, declared.phase.Phase.TheVariants.{Serving, Editing, Reporting}}
use Rattle.machine.specs.{declared.comments.TheConstants.COMMENT_LIMIT, declared.phase.Client.Client}

-- paths with the tokens of the locks that stand there
abbrev pub LockTokens : Type 0
LockTokens = List (PathValue × List ℕ)

-- ---- readings

-- the youngest revision where none is named; one above it is refused
abbrev pub at_revision : RepoState → Option ℕ → (ℕ → Reply) → Reply
at_revision c None f = f (youngest c)
at_revision c (Some n) f =
    if nat_lt (youngest c) n then replies.Failure refusals.NoSuchRevision None else f n

abbrev pub check_path_reply : RepoState → Option ℕ → Result PathValue PathFault → Reply
check_path_reply c revision (Ok path) =
    at_revision c revision (λ n. replies.Kind (kind_at c n path))
check_path_reply c revision (Err fault) = replies.Failure (path_refusal fault) None

abbrev pub rev_proplist_reply : RepoState → ℕ → Reply
rev_proplist_reply c n = at_revision c (Some n) (λ m. replies.Properties (properties_at c m))

-- the lock at a path, if there is one; those at the path and under it
abbrev pub lock_at : RepoState → PathValue → LockList
lock_at c path = option_to_list (option_map (λ l. (path, l)) (get c.locks path))

abbrev pub locks_reply : (PathValue → LockList) → Result PathValue PathFault → Reply
locks_reply found (Ok path) = replies.Locks (found path)
locks_reply found (Err fault) = replies.Failure (path_refusal fault) None

-- what a client of today is told of the history of a path, or of the repository
abbrev pub history_replies : Client → HistoryCommand → RepoState → List Reply
history_replies client (GetLocationSegments command) c =
    segments_replies client.is_of_today c command (joined client.path command.path)
history_replies client (GetDeletedRev command) c =
    deleted_reply c command (joined client.path command.path) ∷ []
history_replies client (GetFileRevs command) c =
    file_revisions_replies client.is_of_today c command (joined client.path command.path)
history_replies client (Replay command) c = replay_replies client c command
history_replies client (ReplayRange command) c = replay_range_replies client c command

-- what a client is told where the repository is read, as it is seen from the path of its URL
abbrev pub read_replies : Client → ReadCommand → RepoState → List Reply
read_replies client GetLatestRev c = replies.Revision (youngest c) ∷ []
read_replies client (CheckPath path revision) c =
    check_path_reply c revision (joined client.path path) ∷ []
read_replies client (RevProplist n) c = rev_proplist_reply c n ∷ []
read_replies client (GetLock path) c = locks_reply (lock_at c) (joined client.path path) ∷ []
read_replies client (GetLocks path) c =
    locks_reply (at_or_under c.locks) (joined client.path path) ∷ []
read_replies client (GetFile command) c =
    file_replies client.is_of_today c command
    (place_read c command.revision (joined client.path command.path))
read_replies client (GetDir command) c =
    directory_reply client.is_of_today c command
    (place_read c command.revision (joined client.path command.path)) ∷ []
read_replies client (Stat path revision) c =
    stat_reply c (place_read c revision (joined client.path path)) ∷ []
read_replies client (GetDatedRev date) c = dated_reply c date ∷ []
read_replies client (RevProp n name) c = property_reply c n name ∷ []
read_replies client (Log command) c =
    log_replies client.is_of_today c command (all_joined client.path command.paths)
read_replies client (GetLocations command) c =
    locations_replies client.is_of_today c command (joined client.path command.path)
read_replies client (History command) c = history_replies client command c

-- it is told, and the next command is awaited
abbrev pub read_answer : Env → Client → ReadCommand → RepoState → Answer
read_answer env client command c = says env (Serving client) (read_replies client command c)

-- ---- the beginning of a report

-- a diff is with texts or without
abbrev pub diff_purpose : Bool → Purpose
diff_purpose true = purposes.Diff
diff_purpose false = purposes.Summary

-- what a command of a client, of today or another, asks a report for, or why it is refused
abbrev pub drive_ask : RepoState → Bool → List ℕ → PathValue → DriveCommand
    → Result DriveAsk Refusal
drive_ask c is_of_today name path (Update request) =
    ask_of c is_of_today name path purposes.Update request None
drive_ask c is_of_today name path (Switch request url) =
    ask_of c is_of_today name path purposes.Switch request (Some url)
drive_ask c is_of_today name path (Status request) =
    ask_of c is_of_today name path purposes.Status request None
drive_ask c is_of_today name path (Diff request) =
    ask_of c is_of_today name path (diff_purpose request.sends_texts) request.drive
    (Some request.url)

-- a report begins, with its refusal if there is one
abbrev pub drive_begins : Settings → Env → Client → DriveCommand → RepoState → Answer
drive_begins s env client command c =
    says env
    (Reporting (record {
      client = client;
      report = begun_report (drive_ask c client.is_of_today s.name client.path command);
    }))
    []

-- ---- the beginning of a commit

-- a lock's path and token in front of others, or the first fault of a path
abbrev pub token_before : List ℕ → Result PathValue PathFault → Result LockTokens PathFault
    → Result LockTokens PathFault
token_before token (Err fault) rest = Err fault
token_before token (Ok path) (Err fault) = Err fault
token_before token (Ok path) (Ok tokens) = Ok ((path, token) ∷ tokens)

-- the lock tokens that are handed in, with the paths that they name
abbrev pub lock_tokens : PathValue → List (List ℕ × List ℕ) → Result LockTokens PathFault
lock_tokens base [] = Ok []
lock_tokens base (pair ∷ pairs) = token_before pair.1 (joined base pair.0) (lock_tokens base pairs)

abbrev pub are_named : Option (List (List ℕ × List ℕ)) → Bool
are_named None = true
are_named (Some pairs) = list_all (λ pair. is_property_name pair.0) pairs

-- the pairs as properties: of two of one name the later counts
abbrev pub set_all : PropertyList → List (List ℕ × List ℕ) → PropertyList
set_all ps [] = ps
set_all ps (pair ∷ pairs) = set_all (with_property ps pair.0 pair.1) pairs

-- what a commit asks for, or why it is refused
abbrev pub asked_by : CommitCommand → Result LockTokens PathFault → Result CommitParameters Refusal
asked_by command (Err fault) = Err (path_refusal fault)
asked_by command (Ok tokens) =
    if are_named command.properties
    then Ok (record { message = command.message; properties = option_map (set_all []) command.properties; tokens = tokens; keep_locks = command.keep_locks })
    else Err refusals.NotSupported

-- an edit begins, or is refused in its place
abbrev pub commit_begins : Settings → Env → Client → Result CommitParameters Refusal → Answer
commit_begins s env client (Ok asked) =
    says env (Editing (record {
      client = client;
      asked = asked;
      editor = new_edit client.path s.name client.is_of_today;
    })) (replies.Success ∷ [])
commit_begins s env client (Err r) = serves env client (replies.Failure r None)

-- ---- locks

-- `opaquelocktoken:` and the text of a word
abbrev pub token_text : ℕ → List ℕ
token_text word = codes "opaquelocktoken:" ++ uuid_text word

-- the words that are left once the token is used: the next one, and 0 behind the greatest
abbrev pub env_without_token : Env → Env
env_without_token env = record env { token = (env.token + 1) % 2 ^ 128 }

-- what is asked of a path by a lock of this date, and by an unlock
abbrev pub lock_ask : Env → Client → LockCommand → PathValue → List ℕ → LockAsk
lock_ask env client command path date = record {
  path = path;
  user = client.user;
  comment = command.comment;
  steals = command.steals;
  current = command.current;
  token = token_text env.token;
  date = date;
}

abbrev pub unlock_ask : Client → UnlockCommand → PathValue → UnlockAsk
unlock_ask client command path = record {
  path = path;
  user = client.user;
  token = command.token;
  breaks = command.breaks;
  tells_dead_tokens = client.is_of_today;
}

-- a lock that is made uses the token, and is told
abbrev pub lock_answer : Env → Client → LockAsk → Verdict → Answer
lock_answer env client ask Written =
    change_answer (env_without_token env) client (Locks ask)
    (replies.Lock ask.path (lock_of ask) ∷ []) Written
lock_answer env client ask NotWritten = change_answer env client (Locks ask) [] NotWritten
lock_answer env client ask (Unknown x) = change_answer env client (Locks ask) [] (Unknown x)

-- a path is locked
abbrev pub LockingStep : Env → Client → LockCommand → Result PathValue PathFault → Step
LockingStep env client command (Ok path) halted c a =
    (date : List ℕ) × IsDateText env.moment date
    × (let ask = lock_ask env client command path date in
    ChangeStep halted env client (lock_refusal c ask) (Locks ask) (lock_answer env client ask) a)
LockingStep env client command (Err fault) halted c a =
    a ≡ serves env client (replies.Failure (path_refusal fault) None)

-- whether the comment of a lock is over the limit
abbrev pub is_long_comment : Option (List ℕ) → Bool
is_long_comment None = false
is_long_comment (Some comment) = nat_lt COMMENT_LIMIT (length comment)

-- a lock with a longer comment is refused, whatever else would be said of it
abbrev pub LockStep : Bool → Env → Client → LockCommand → Result PathValue PathFault → Step
LockStep false env client command path = LockingStep env client command path
LockStep true env client command path =
    Always (serves env client (replies.Failure refusals.NotSupported None))

abbrev pub UnlockStep : Env → Client → UnlockCommand → Result PathValue PathFault → Step
UnlockStep env client command (Ok path) halted c a =
    let ask = unlock_ask client command path in
    ChangeStep halted env client (unlock_refusal c ask) (Unlocks ask)
    (change_answer env client (Unlocks ask) (replies.Success ∷ [])) a
UnlockStep env client command (Err fault) halted c a =
    a ≡ serves env client (replies.Failure (path_refusal fault) None)

-- ---- properties of revisions

-- a property of a revision is changed: the value takes the place of the one before, and without a
-- value there is none; the value before has to be the one that the client asks for, if it does
abbrev pub RevisingStep : Env → Client → PropertyAsk → Step
RevisingStep env client ask halted c a =
    ChangeStep halted env client (property_refusal c ask) (ChangesProperty ask)
    (change_answer env client (ChangesProperty ask) (replies.Success ∷ [])) a

-- a date that is refused, before the revision is judged
abbrev pub DatingStep : Bool → Env → Client → PropertyAsk → Step
DatingStep false env client ask = RevisingStep env client ask
DatingStep true env client ask = Always (serves env client (replies.Failure refusals.NotADate None))

-- where clients may not change them it is refused, whatever else would be said of it
abbrev pub PropertyStep : Bool → Env → Client → PropertyAsk → Step
PropertyStep false env client ask =
    Always (serves env client (replies.Failure refusals.RevisionPropertiesClosed None))
PropertyStep true env client ask =
    DatingStep (is_refused_date client.is_of_today ask) env client ask

-- ---- another URL

-- a client goes on at the path of its new URL; its root stays as it was told
abbrev pub at_path : Client → PathValue → Client
at_path client path = record client { path = path }

-- a URL that is refused leaves the client where it is
abbrev pub reparented : Env → Client → Result PathValue PathFault → Answer
reparented env client (Ok path) = serves env (at_path client path) replies.Success
reparented env client (Err fault) = serves env client (replies.Failure (path_refusal fault) None)

-- ---- a command, and what comes before it

-- what a command is answered, once nothing has to come before
abbrev pub OwnStep : Settings → Env → Client → MainCommand → Step
OwnStep s env client (Read command) = Shows (read_answer env client command)
OwnStep s env client (Drive command) = Shows (drive_begins s env client command)
OwnStep s env client (Commit command) =
    Always (commit_begins s env client
    (asked_by command (lock_tokens client.path command.tokens)))
OwnStep s env client AbortEdit = Always (says env (Serving client) [])
OwnStep s env client (Lock command) =
    LockStep (is_long_comment command.comment) env client command (joined client.path command.path)
OwnStep s env client (Unlock command) =
    UnlockStep env client command (joined client.path command.path)
OwnStep s env client (ChangeRevProp ask) = PropertyStep s.revprops env client ask
OwnStep s env client (Reparent url) = Always (reparented env client (path_of_text url s.name))

-- what is told before it: a login request, which asks for nothing; an edit that is given up outside
-- one draws no reply
abbrev pub login_request : MainCommand → List Reply
login_request (Read command) = replies.NoLogin ∷ []
login_request (Drive command) = replies.NoLogin ∷ []
login_request (Commit command) = replies.NoLogin ∷ []
login_request AbortEdit = []
login_request (Lock command) = replies.NoLogin ∷ []
login_request (Unlock command) = replies.NoLogin ∷ []
login_request (ChangeRevProp ask) = replies.NoLogin ∷ []
login_request (Reparent url) = replies.NoLogin ∷ []

-- whether a command writes
abbrev pub is_write : MainCommand → Bool
is_write (Read command) = false
is_write (Drive command) = false
is_write (Commit command) = true
is_write AbortEdit = false
is_write (Lock command) = true
is_write (Unlock command) = true
is_write (ChangeRevProp ask) = true
is_write (Reparent url) = false
