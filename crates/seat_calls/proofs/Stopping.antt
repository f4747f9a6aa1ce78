-- What a stop leaves within a commit with its release.
use Rattle.std.proofs.Common.{◌≡◌, List, [], ◌∷◌, ◌++◌, false, Option, Some, None, subst}
use Rattle.repo_api.specs.{Accepted.{Accepted, changed, IsAccepted}, Accepted.Accepted.{Commits, Releases}, States.{RepoState, TxnState}}
use Rattle.repo_api.specs.declared.ask.CommitAsk.{CommitAsk}
use Rattle.access.specs.{declared.handed.Handed.Handed, Handed.IsHandedIn, Beginnings.AreAmong}
use Rattle.published.specs.{Events.state_of, Files.Kept}
use Rattle.access.proofs.First as first
use Rattle.keepers.specs.Standing.{Standing, StopLeaves}
use Rattle.seat_calls.specs.Releasing.{releases_of}

module _ {S : Type 0} (kept : S → Kept) (leaves : S → S → List RepoState → Type 0) where
  -- a commit that was not made
  pub not_released : (k m : Standing S) (ask : CommitAsk) (t : TxnState) → StopLeaves kept leaves (Commits ask t ∷ []) k m
      → StopLeaves kept leaves (Commits ask t ∷ Releases ask.author ask.tokens ∷ []) k m
  not_released k m ask t left =
      first.asked_more (λ k. state_of k.list) (λ k. k.archive) (λ a. (kept a).halted) leaves k m (Commits ask t ∷ []) (Releases ask.author ask.tokens ∷ []) left

  -- the release of what was handed in is asked for with the commit
  release_asked : (m l : Standing S) (ask : CommitAsk) (handed : Option Handed) → IsHandedIn ask handed
      → StopLeaves kept leaves (releases_of handed) m l → StopLeaves kept leaves (Releases ask.author ask.tokens ∷ []) m l
  release_asked m l ask None is left =
      first.asked_more (λ k. state_of k.list) (λ k. k.archive) (λ a. (kept a).halted) leaves m l [] (Releases ask.author ask.tokens ∷ []) left
  release_asked m l ask (Some handed) is left =
      subst (λ (e : Accepted). StopLeaves kept leaves (e ∷ []) m l) (λ i. Releases (is.1 i) (is.2 i)) left

  -- a commit, and then the release
  pub committed_and_released : (joins : (a b c : S) (cs ds : List RepoState) → leaves a b cs → leaves b c ds → leaves a c (cs ++ ds))
      → (among : (a b : S) (cs ds : List RepoState) → AreAmong cs ds → leaves a b cs → leaves a b ds)
      → (k m l : Standing S) (ask : CommitAsk) (t : TxnState) (handed : Option Handed) → IsHandedIn ask handed
      → (kept k.archive).halted ≡ false → (kept m.archive).halted ≡ false → IsAccepted (state_of k.list) (Commits ask t)
      → state_of m.list ≡ changed (state_of k.list) (Commits ask t)
      → StopLeaves kept leaves (Commits ask t ∷ []) k m → StopLeaves kept leaves (releases_of handed) m l
      → StopLeaves kept leaves (Commits ask t ∷ Releases ask.author ask.tokens ∷ []) k l
  committed_and_released joins among k m l ask t handed is running goes_on accepted made committed then =
      first.saved_then (λ k. state_of k.list) (λ k. k.archive) (λ a. (kept a).halted) leaves joins among k m l (Commits ask t)
      (Releases ask.author ask.tokens ∷ []) running goes_on accepted made committed (release_asked m l ask handed is then)
