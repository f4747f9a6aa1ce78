-- Locks through accepted changes, one after another.
use Rattle.std.specs.{Prelude.{◌≡◌, ◌≢◌, ℕ, Bool, true, false, List, [], ◌∷◌, Some, slice_get}, FinMap.get, List.list_any}
use Rattle.svnpath.specs.Paths.{PathValue, same_path}
use Rattle.repo_api.specs.{Accepted.{Accepted, changed}, Accepted.Accepted.{Commits, Locks, Unlocks, Releases, ChangesProperty}, States.{RepoState, LockMap}}
use Rattle.repo_api.specs.declared.lock.Lock.{Lock}

-- the change is of locks
abbrev pub is_of_locks : Accepted → Bool
is_of_locks (Commits ask t) = false
is_of_locks (Locks ask) = true
is_of_locks (Unlocks ask) = true
is_of_locks (Releases user tokens) = true
is_of_locks (ChangesProperty ask) = false

-- the change is of a lock at the path: no commit is, and no change of a property
abbrev pub names_lock : Accepted → PathValue → Bool
names_lock (Commits ask t) p = false
names_lock (Locks ask) p = same_path ask.path p
names_lock (Unlocks ask) p = same_path ask.path p
names_lock (Releases user tokens) p = list_any (λ t. same_path t.0 p) tokens
names_lock (ChangesProperty ask) p = false

-- all but the locks is the same
pub record HasSameRevisions (old new : RepoState) : Type 0 where
  pub uuid : new.uuid ≡ old.uuid
  pub revisions : new.revisions ≡ old.revisions
  pub properties : new.properties ≡ old.properties

-- all but the properties of one revision is the same
pub record HasSameOtherwise (n : ℕ) (old new : RepoState) : Type 0 where
  pub uuid : new.uuid ≡ old.uuid
  pub revisions : new.revisions ≡ old.revisions
  pub properties : (m : ℕ) → m ≢ n → slice_get new.properties m ≡ slice_get old.properties m
  pub locks : new.locks ≡ old.locks

-- locks of one token are at one path
abbrev pub HaveOwnTokens : LockMap → Type 0
HaveOwnTokens locks =
    (p q : PathValue) (k l : Lock) → get locks p ≡ Some k → get locks q ≡ Some l
    → k.token ≡ l.token → p ≡ q

-- no lock has the token
abbrev pub IsNewToken : LockMap → List ℕ → Type 0
IsNewToken locks token = (p : PathValue) (l : Lock) → get locks p ≡ Some l → l.token ≢ token

-- each lock among the changes has a token that none of the locks has which stand then
abbrev pub HaveNewTokens : RepoState → List Accepted → Type 0
HaveNewTokens c [] = Unit {0}
HaveNewTokens c (Commits ask t ∷ es) = HaveNewTokens (changed c (Commits ask t)) es
HaveNewTokens c (Locks ask ∷ es) =
    IsNewToken c.locks ask.token × HaveNewTokens (changed c (Locks ask)) es
HaveNewTokens c (Unlocks ask ∷ es) = HaveNewTokens (changed c (Unlocks ask)) es
HaveNewTokens c (Releases user tokens ∷ es) =
    HaveNewTokens (changed c (Releases user tokens)) es
HaveNewTokens c (ChangesProperty ask ∷ es) =
    HaveNewTokens (changed c (ChangesProperty ask)) es
