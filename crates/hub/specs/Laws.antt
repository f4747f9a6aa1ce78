-- Words of the laws of a hub.
use Rattle.std.specs.Prelude.{◌≡◌, ◌&&◌, ◌==◌, ◌<◌, not, if◌then◌else◌, Bool, true, false, ℕ, List, [], ◌∷◌, ◌++◌, Some, Contains, None, length, IsTrue}
use Rattle.std.specs.{FinMap.get, List.list_any}
use Rattle.svnpath.specs.Paths.{PathValue}
use Rattle.access.specs.Changing.{wants_release}
use Rattle.repo_api.specs.{Accepted.{Accepted, changed}, Accepted.Accepted.{ChangesProperty, Commits, Locks, Releases, Unlocks}, Commits.{committed, next_tree}}
use Rattle.repo_api.specs.{LockRuns.{HaveNewTokens, HaveOwnTokens, IsNewToken, names_lock}, Locking.{is_handed_in, is_in_the_way, lock_of}}
use Rattle.repo_api.specs.{Marks.{own_of, shown}, Merge.is_changed, Opening.new_repository, Properties.PropertyList}
use Rattle.repo_api.specs.{States.{LockMap, RepoState, tree_at, TxnState, youngest}, declared.lock.Lock.Lock as LockValue, declared.ask.CommitAsk.CommitAsk}
use Rattle.wire_forms.specs.Forms.{is_name}
use Rattle.wire_replies.specs.{declared.reply.Reply.Reply, declared.reply.Reply.TheVariants.{Success, Lock, CommitInfo, Failure, Failures}}
use Rattle.machine.specs.{Commands.{env_without_token, token_text}, Hearing.Input, Hearing.Input.{Broken, Whole}, Readings.revision_value, Settings.Settings}
use Rattle.machine.specs.declared.env.Env.{Env}
use Rattle.hub.specs.{State.HubState, Runs.{Event, HubRun}}

-- a hub over a new repository, to which nobody has connected yet
abbrev pub new_hub : Settings → ℕ → List ℕ → HubState
new_hub settings uuid date = record {
  settings = settings;
  content = new_repository uuid date;
  halted = false;
  failures = 0;
  pending = None;
  sessions = [];
  used = 0;
}

-- a failure: a refusal, or one that has its links from a client
abbrev pub IsFailure : Reply → Type 0
IsFailure (Failure r path) = Unit {0}
IsFailure (Failures links) = Unit {0}
IsFailure _ = ⊥

-- one of these replies is a failure
abbrev pub TellsFailure : List Reply → Type 0
TellsFailure told = (reply : Reply) × Contains told reply × IsFailure reply

-- the last of the replies is this one
abbrev pub EndsWith : List Reply → Reply → Type 0
EndsWith told reply = (before : List Reply) × (told ≡ before ++ reply ∷ [])

-- behind a commit the locks that were handed in with it are released, where that is wanted and does
-- not fail
abbrev pub release_behind : RepoState → CommitAsk → TxnState → Bool → List Accepted
release_behind c ask t fails =
    if wants_release ask (committed c ask t) && not fails
    then Releases ask.author ask.tokens ∷ [] else []

-- What is told of an event's changes, of which there is one, or a commit with the release behind
-- it: of a commit its number, its date, its author, and whether the release has failed, which it has
-- exactly where the store has; of a lock what it is.
abbrev pub IsTold : RepoState → Bool → List Accepted → List Reply → Type 0
IsTold c failed [] told = Unit {0}
IsTold c failed (Commits ask t ∷ behind) told =
    (failed ≡ true → wants_release ask (committed c ask t) ≡ true)
    × (behind ≡ release_behind c ask t failed)
    × EndsWith told (CommitInfo (length c.revisions) ask.date ask.author failed)
IsTold c failed (Locks ask ∷ behind) told =
    (behind ≡ []) × EndsWith told (Lock ask.path (lock_of ask))
IsTold c failed (Unlocks ask ∷ behind) told = (behind ≡ []) × EndsWith told Success
IsTold c failed (Releases user tokens ∷ behind) told = ⊥
IsTold c failed (ChangesProperty ask ∷ behind) told =
    (behind ≡ []) × EndsWith told Success

-- A lock has the token of the word that was handed in, and uses the word up; nothing else does.
abbrev pub UsesWord : Env → List Accepted → Env → Type 0
UsesWord env [] after = after.token ≡ env.token
UsesWord env (Commits ask t ∷ es) after = after.token ≡ env.token
UsesWord env (Locks ask ∷ es) after =
    (ask.token ≡ token_text env.token) × (after ≡ env_without_token env)
UsesWord env (Unlocks ask ∷ es) after = after.token ≡ env.token
UsesWord env (Releases user tokens ∷ es) after = after.token ≡ env.token
UsesWord env (ChangesProperty ask ∷ es) after = after.token ≡ env.token

-- what nothing changes: the settings, and the repository's name among all repositories
pub record KeepsConstants (old new : HubState) : Type 0 where
  pub settings : new.settings ≡ old.settings
  pub uuid : new.content.uuid ≡ old.content.uuid

-- each revision that is there keeps its properties
abbrev pub KeepsProperties : RepoState → RepoState → Type 0
KeepsProperties old new = (more : List PropertyList) × (new.properties ≡ old.properties ++ more)

-- the change is of this property of this revision: no commit is, and no change of locks
abbrev pub names_property : Accepted → ℕ → List ℕ → Bool
names_property (Commits ask t) n name = false
names_property (Locks ask) n name = false
names_property (Unlocks ask) n name = false
names_property (Releases user tokens) n name = false
names_property (ChangesProperty ask) n name = (ask.revision == n) && is_name ask.name name

-- of a revision that is there, each property that no change names has the value that it had, or has
-- none as before
abbrev pub KeepsOtherProperties : RepoState → List Accepted → RepoState → Type 0
KeepsOtherProperties old changes new =
    (n : ℕ) (name : List ℕ) → n < length old.properties
    → list_any (λ e. names_property e n name) changes ≡ false
    → revision_value new name n ≡ revision_value old name n

-- no byte of the stream is wrong so far
abbrev pub IsUnbroken : List Input → Type 0
IsUnbroken [] = Unit {0}
IsUnbroken (Whole t ∷ inputs) = IsUnbroken inputs
IsUnbroken (Broken ∷ inputs) = ⊥

-- what was changed since the transaction's base, by others or by the transaction, is in the next
-- tree as they left it
pub record KeepsBothSides (c : RepoState) (t : TxnState) : Type 0 where
  pub theirs : (p : PathValue) → is_changed (get (tree_at c t.base) p)
      (get (tree_at c (youngest c)) p) ≡ true
      → (shown (get (next_tree c t) p) ≡ shown (get (tree_at c (youngest c)) p))
      × (own_of (get (next_tree c t) p) ≡ own_of (get (tree_at c (youngest c)) p))
  pub ours : (p : PathValue) → is_changed (get (tree_at c t.base) p) (get t.tree p) ≡ true
      → shown (get (next_tree c t) p) ≡ shown (get t.tree p)

-- so it is where the change is a commit
abbrev pub KeepsSides : RepoState → Accepted → Type 0
KeepsSides c (Commits ask t) = KeepsBothSides c t
KeepsSides c (Locks ask) = Unit {0}
KeepsSides c (Unlocks ask) = Unit {0}
KeepsSides c (Releases user tokens) = Unit {0}
KeepsSides c (ChangesProperty ask) = Unit {0}

-- so it is of each change, in the state that those before it make
abbrev pub AllKeepSides : RepoState → List Accepted → Type 0
AllKeepSides c [] = Unit {0}
AllKeepSides c (e ∷ es) = KeepsSides c e × AllKeepSides (changed c e) es

-- ---- locks

-- where the change is a commit, each lock in its way is its user's, and its token was handed in
abbrev pub HoldsLocks : RepoState → Accepted → Type 0
HoldsLocks c (Commits ask t) =
    (p : PathValue) (l : LockValue) → get c.locks p ≡ Some l → is_in_the_way t.changes p ≡ true
    → (ask.author ≡ Some l.owner) × IsTrue (is_handed_in ask.tokens l.token)
HoldsLocks c (Locks ask) = Unit {0}
HoldsLocks c (Unlocks ask) = Unit {0}
HoldsLocks c (Releases user tokens) = Unit {0}
HoldsLocks c (ChangesProperty ask) = Unit {0}

-- so it is of each change, in the state that those before it make
abbrev pub AllHoldLocks : RepoState → List Accepted → Type 0
AllHoldLocks c [] = Unit {0}
AllHoldLocks c (e ∷ es) = HoldsLocks c e × AllHoldLocks (changed c e) es

-- the changes respect locks: those in the way of a commit are held, those at paths that no change
-- names stay as they were, and no two come to have one token where each new one's is new
pub record RespectLocks (old : RepoState) (changes : List Accepted) (new : RepoState)
    : Type 0 where
  pub held : AllHoldLocks old changes
  pub unnamed : (p : PathValue) → list_any (λ e. names_lock e p) changes ≡ false
      → get new.locks p ≡ get old.locks p
  pub distinct : HaveOwnTokens old.locks → HaveNewTokens old changes → HaveOwnTokens new.locks

-- where a word is used up, none of the locks has the token of it
abbrev pub IsNewWord : LockMap → Env → Env → Type 0
IsNewWord locks env after =
    after ≡ env_without_token env → IsNewToken locks (token_text env.token)

-- at each event of a run that uses up a word, its token is one that none of the locks has which
-- stand then
abbrev pub MakesNewTokens : (old : HubState) (env : Env) (events : List Event) (told : List Reply)
    (new : HubState) (after : Env) → HubRun old env events told new after → Type 0
MakesNewTokens old env [] told new after run = Unit {0}
MakesNewTokens old env (e ∷ es) told new after (first, mid, between, more, step, run, is_told) =
    IsNewWord old.content.locks env between × MakesNewTokens mid between es more new after run
