-- The accepted changes of a repository, and what they make of it.
use Rattle.std.specs.Prelude.{◌≡◌, ℕ, true, List, [], ◌∷◌, Option, Some, None, OnOk, Result, Ok, Err, MatchResult}
use Rattle.refusals.specs.declared.Refusal.{Refusal}
use Rattle.repo_api.specs.{States.{RepoState, TxnState}, Commits.{commit_refusal, committed}}
use Rattle.repo_api.specs.Locking.{HandedTokens, lock_refusal, locked, unlock_refusal, unlocked, releases, without_released}
use Rattle.repo_api.specs.{RevisionProperties.{property_refusal, with_changed_property}, declared.ask.CommitAsk.CommitAsk}
use Rattle.repo_api.specs.{declared.fault.ChangeFault.ChangeFault, declared.lock_ask.LockAsk.LockAsk, declared.lock_ask.UnlockAsk.UnlockAsk}
use Rattle.repo_api.specs.{declared.property_ask.PropertyAsk.PropertyAsk, declared.fault.ChangeFault.TheVariants.{Refused, StoreFailed, Halted, NoMemory}}

-- an accepted change, with what was asked; a release with the user and the tokens handed in
pub data Accepted : Type 0 where
  Commits : CommitAsk → TxnState → Accepted
  Locks : LockAsk → Accepted
  Unlocks : UnlockAsk → Accepted
  Releases : Option (List ℕ) → HandedTokens → Accepted
  ChangesProperty : PropertyAsk → Accepted

abbrev pub changed : RepoState → Accepted → RepoState
changed c (Commits ask t) = committed c ask t
changed c (Locks ask) = locked c ask
changed c (Unlocks ask) = unlocked c ask
changed c (Releases user tokens) = without_released c user tokens
changed c (ChangesProperty ask) = with_changed_property c ask.revision ask.name ask.value

abbrev pub changed_all : RepoState → List Accepted → RepoState
changed_all c [] = c
changed_all c (e ∷ es) = changed_all (changed c e) es

-- a change that the rules accept; a release takes some lock, else there is none
abbrev pub IsAccepted : RepoState → Accepted → Type 0
IsAccepted c (Commits ask t) = commit_refusal c ask t ≡ None
IsAccepted c (Locks ask) = lock_refusal c ask ≡ None
IsAccepted c (Unlocks ask) = unlock_refusal c ask ≡ None
IsAccepted c (Releases user tokens) = releases user tokens c.locks ≡ true
IsAccepted c (ChangesProperty ask) = property_refusal c ask ≡ None

-- why the rules refuse a change, if they do; a release is not refused
abbrev pub refusal_of : RepoState → Accepted → Option Refusal
refusal_of c (Commits ask t) = commit_refusal c ask t
refusal_of c (Locks ask) = lock_refusal c ask
refusal_of c (Unlocks ask) = unlock_refusal c ask
refusal_of c (Releases user tokens) = None
refusal_of c (ChangesProperty ask) = property_refusal c ask

-- changes one after another, each accepted in the state that those before it make
abbrev pub AreAccepted : RepoState → List Accepted → Type 0
AreAccepted c [] = Unit {0}
AreAccepted c (e ∷ es) = IsAccepted c e × AreAccepted (changed c e) es

-- what a refusal says
abbrev pub IfRefused : {T : Type 0} → Result T ChangeFault → (Refusal → Type 0) → Type 0
IfRefused (Ok _) P = Unit {0}
IfRefused (Err (Refused r)) P = P r
IfRefused (Err StoreFailed) P = Unit {0}
IfRefused (Err Halted) P = Unit {0}
IfRefused (Err NoMemory) P = Unit {0}

-- a repository in memory has no store that could fail
abbrev pub IsOfMemory : {T : Type 0} → Result T ChangeFault → Type 0
IsOfMemory (Ok _) = Unit {0}
IsOfMemory (Err (Refused r)) = Unit {0}
IsOfMemory (Err StoreFailed) = ⊥
IsOfMemory (Err Halted) = ⊥
IsOfMemory (Err NoMemory) = Unit {0}

-- the rules judge a change: it is made only where they refuse nothing, and refused only as they say;
-- else memory ran out
abbrev pub IsJudged : {T : Type 0} → Result T ChangeFault → Option Refusal → Type 0
IsJudged result refusal =
    OnOk result (refusal ≡ None) × IfRefused result (λ r. refusal ≡ Some r) × IsOfMemory result

-- what was there becomes what is made of it, as the rules judge; where there is an error it stays
abbrev pub Becomes : {T S : Type 0} → Result T ChangeFault → Option Refusal → S → S → S → Type 0
Becomes result refusal old made new =
    IsJudged result refusal × MatchResult result (λ _. new ≡ made) (λ _. new ≡ old)

-- a repository becomes what a change makes of it
abbrev pub MakesChange : {T : Type 0} → Result T ChangeFault → RepoState → Accepted → RepoState → Type 0
MakesChange result old e new = Becomes result (refusal_of old e) old (changed old e) new
