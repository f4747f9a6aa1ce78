-- Locks of paths: which stand in the way of changes, and what refuses a commit, a lock and an
-- unlock.
use Rattle.std.specs.Prelude.{ℕ, Bool, true, false, ◌&&◌, not, if◌then◌else◌, is_some, nat_le, nat_lt, List, [], ◌∷◌, Option, Some, None}
use Rattle.std.specs.{FinMap.{get, len, entries, insert, remove, retain_keys}, List.{list_any, filter}, Option.{is_none, option_or}}
use Rattle.svnpath.specs.{Listings.listing, Paths.{is_at_or_under, PathValue, same_component, same_path}}
use Rattle.refusals.specs.declared.Refusal.{Refusal}
use Rattle.refusals.specs.declared.Refusal.TheVariants as refusals
use Rattle.repo_api.specs.{Kinds.{kind_at, created_at}, Judging.is_older, States.{ChangeMap, LockMap, RepoState, youngest}, declared.change.Action.Action}
use Rattle.repo_api.specs.{declared.change.Action.TheVariants.{Add, Delete, Replace, Modify}, declared.change.Change.Change, declared.entry.NodeKind.NodeKind}
use Rattle.repo_api.specs.{declared.limits.TheConstants.LOCK_LIMIT, declared.lock.Lock.Lock, declared.lock_ask.LockAsk.LockAsk}
use Rattle.repo_api.specs.declared.lock_ask.UnlockAsk.{UnlockAsk}
use Rattle.repo_api.specs.declared.entry.NodeKind.TheVariants as kinds

-- locks with the paths at which they stand
abbrev pub LockList : Type 0
LockList = List (PathValue × Lock)

-- paths with tokens, as a commit hands them in
abbrev pub HandedTokens : Type 0
HandedTokens = List (PathValue × List ℕ)

-- ---- in the way

-- what was added, deleted or replaced changes all that lies beneath it
abbrev pub is_of_whole_tree : Action → Bool
is_of_whole_tree Add = true
is_of_whole_tree Delete = true
is_of_whole_tree Replace = true
is_of_whole_tree Modify = false

-- a change reaches its own path, and what lies beneath it where all that is changed
abbrev pub reaches : PathValue × Change → PathValue → Bool
reaches c p = if is_of_whole_tree c.1.action then is_at_or_under p c.0 else same_path c.0 p

abbrev pub is_reached : List (PathValue × Change) → PathValue → Bool
is_reached cs p = list_any (λ c. reaches c p) cs

-- a lock is in the way where one of the changes reaches its path
abbrev pub is_in_the_way : ChangeMap → PathValue → Bool
is_in_the_way changes p = is_reached (entries changes) p

-- the locks in the way of the changes, by the bytes of their paths
abbrev pub in_the_way : LockMap → ChangeMap → LockList
in_the_way locks changes = listing (filter (λ e. is_in_the_way changes e.0) (entries locks))

-- the locks at the path and under it, by the bytes of their paths
abbrev pub at_or_under : LockMap → PathValue → LockList
at_or_under locks p = listing (filter (λ e. is_at_or_under e.0 p) (entries locks))

-- ---- the check of a commit

-- what keeps a user from using a lock, where the right token was given or was not
abbrev pub holder_refusal : Option (List ℕ) → Bool → Lock → Option Refusal
holder_refusal None is_right l = Some refusals.NoUser
holder_refusal (Some user) is_right l =
    if same_component user l.owner then (if is_right then None else Some refusals.BadLockToken)
    else Some refusals.NotTheLockOwner

-- the token was handed in, under any path
abbrev pub is_handed_in : HandedTokens → List ℕ → Bool
is_handed_in tokens token = list_any (λ t. same_component t.1 token) tokens

-- why a lock in the way refuses a commit with these tokens
abbrev pub way_refusal : Option (List ℕ) → (List ℕ → Bool) → Lock → Option Refusal
way_refusal user handed_in l = holder_refusal user (handed_in l.token) l

-- the first of the locks that refuses says why
abbrev pub first_refusal : Option (List ℕ) → (List ℕ → Bool) → LockList → Option Refusal
first_refusal user handed_in [] = None
first_refusal user handed_in (e ∷ es) =
    option_or (way_refusal user handed_in e.1) (first_refusal user handed_in es)

-- why the locks refuse a commit of the changes: the first in the way that does, by the bytes of its
-- path
abbrev pub check_refusal : LockMap → ChangeMap → Option (List ℕ) → HandedTokens → Option Refusal
check_refusal locks changes user tokens =
    first_refusal user (is_handed_in tokens) (in_the_way locks changes)

-- the path of the first of the locks that refuses
abbrev pub first_refusing : Option (List ℕ) → (List ℕ → Bool) → LockList → Option PathValue
first_refusing user handed_in [] = None
first_refusing user handed_in (e ∷ es) =
    if is_some (way_refusal user handed_in e.1) then Some e.0
    else first_refusing user handed_in es

-- the path of the lock that refuses a commit of the changes, if one does
abbrev pub refusing_path : LockMap → ChangeMap → Option (List ℕ) → HandedTokens → Option PathValue
refusing_path locks changes user tokens =
    first_refusing user (is_handed_in tokens) (in_the_way locks changes)

-- ---- lock

abbrev pub user_refusal : Option (List ℕ) → Option Refusal
user_refusal None = Some refusals.NoUser
user_refusal (Some user) = None

-- why what stands at a path, last changed at this revision, is not locked: only files are, and only
-- as the client has seen them
abbrev pub entry_refusal : Option ℕ → NodeKind → Option ℕ → Option Refusal
entry_refusal current kinds.Absent created = Some refusals.NotFound
entry_refusal current kinds.Directory created = Some refusals.NotAFile
entry_refusal current kinds.File created =
    if is_older current created then Some refusals.LockOutOfDate else None

-- why no lock is put where one stands or none does, and so many stand in all
abbrev pub lock_place_refusal : Bool → Option Lock → ℕ → Option Refusal
lock_place_refusal steals None count =
    if nat_le LOCK_LIMIT count then Some refusals.NotSupported else None
lock_place_refusal steals (Some l) count = if steals then None else Some refusals.AlreadyLocked

-- why a lock is refused where an entry of this kind stands, last changed at this revision, beside
-- these locks
abbrev pub lock_refusal_at : NodeKind → Option ℕ → LockMap → LockAsk → Option Refusal
lock_refusal_at kind created locks ask =
    option_or (user_refusal ask.user) (option_or (entry_refusal ask.current kind created)
    (lock_place_refusal ask.steals (get locks ask.path) (len locks)))

-- a client cannot have seen a revision above the youngest
abbrev pub current_refusal : ℕ → Option ℕ → Option Refusal
current_refusal newest None = None
current_refusal newest (Some current) =
    if nat_lt newest current then Some refusals.NoSuchRevision else None

-- why a lock that is asked for is refused: for the revision that the client has seen before all
-- else; then the path is judged in the youngest tree
abbrev pub lock_refusal : RepoState → LockAsk → Option Refusal
lock_refusal c ask =
    option_or (current_refusal (youngest c) ask.current)
    (lock_refusal_at (kind_at c (youngest c) ask.path) (created_at c (youngest c) ask.path)
    c.locks ask)

-- a lock without an owner is refused
abbrev pub owner_of : Option (List ℕ) → List ℕ
owner_of None = []
owner_of (Some user) = user

-- the lock that is asked for
abbrev pub lock_of : LockAsk → Lock
lock_of ask =
    record {
      token = ask.token;
      owner = owner_of ask.user;
      comment = ask.comment;
      created = ask.date;
    }

-- the repository with a lock at the path, in place of what stood there
abbrev pub with_lock : RepoState → PathValue → Lock → RepoState
with_lock c p l = record c { locks = insert c.locks p l }

-- the repository after a lock, which takes the place of the one that it steals
abbrev pub locked : RepoState → LockAsk → RepoState
locked c ask = with_lock c ask.path (lock_of ask)

-- ---- unlock

abbrev pub is_token : Option (List ℕ) → Lock → Bool
is_token None l = false
is_token (Some token) l = same_component token l.token

-- a token that is handed in is of another lock than this, and is to be told as one of no lock
abbrev pub is_dead_token : UnlockAsk → Lock → Bool
is_dead_token ask l = ask.tells_dead_tokens && (is_some ask.token && not (is_token ask.token l))

-- why the lock, if there is one, is not taken away
abbrev pub taking_refusal : UnlockAsk → Option Lock → Option Refusal
taking_refusal ask None = Some refusals.NoSuchLock
taking_refusal ask (Some l) =
    if ask.breaks
    then None
    else (if is_dead_token ask l
    then Some refusals.NoSuchLock
    else holder_refusal ask.user (is_token ask.token l) l)

-- why an unlock that is asked for is refused
abbrev pub unlock_refusal : RepoState → UnlockAsk → Option Refusal
unlock_refusal c ask = taking_refusal ask (get c.locks ask.path)

abbrev pub unlocked : RepoState → UnlockAsk → RepoState
unlocked c ask = record c { locks = remove c.locks ask.path }

-- ---- release

-- the lock, if there is one, is the user's and has the token
abbrev pub is_held : Option (List ℕ) → List ℕ → Option Lock → Bool
is_held user token None = false
is_held user token (Some l) = is_none (holder_refusal user (same_component token l.token) l)

-- the lock at the path is the user's, and was handed in: its path, with its token
abbrev pub is_released : Option (List ℕ) → HandedTokens → LockMap → PathValue → Bool
is_released user tokens locks p =
    list_any (λ t. same_path t.0 p && is_held user t.1 (get locks p)) tokens

-- the locks that a release takes, and those that it leaves
abbrev pub released : Option (List ℕ) → HandedTokens → LockMap → LockMap
released user tokens locks = retain_keys locks (is_released user tokens locks)

abbrev pub after_release : Option (List ℕ) → HandedTokens → LockMap → LockMap
after_release user tokens locks = retain_keys locks (λ p. not (is_released user tokens locks p))

-- a release takes some lock
abbrev pub releases : Option (List ℕ) → HandedTokens → LockMap → Bool
releases user tokens locks = list_any (λ t. is_held user t.1 (get locks t.0)) tokens

-- the repository after a release
abbrev pub without_released : RepoState → Option (List ℕ) → HandedTokens → RepoState
without_released c user tokens = record c { locks = after_release user tokens c.locks }
