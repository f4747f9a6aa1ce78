-- What a stop leaves within a call of a keeper.
use Rattle.std.proofs.Common.{◌≡◌, List, [], ◌∷◌, false, subst}
use mathlib.Core.List.{IsPrefix}
use Rattle.repo_api.specs.{Accepted.{Accepted, changed_all, IsAccepted}, States.RepoState}
use Rattle.published.specs.{Events.state_of, Files.Kept}
use Rattle.access.specs.Beginnings.{through}
use Rattle.access.proofs.First as first
use Rattle.keepers.specs.Standing.{Standing, IsSteady, StopLeaves}
use Rattle.keepers.proofs.Keeping.{stands_now}

module _ {S : Type 0} (kept : S → Kept) (leaves : S → S → List RepoState → Type 0) where
  -- the save of a right change, which was made or not
  pub stop_left : (k k' : Standing S) (e : Accepted) (made : List Accepted) → (kept k.archive).halted ≡ false
      → (kept k.archive).content ≡ state_of k.list → IsAccepted (state_of k.list) e
      → IsPrefix made (e ∷ []) → state_of k'.list ≡ changed_all (state_of k.list) made
      → leaves k.archive k'.archive (through (kept k.archive).content (e ∷ [])) → StopLeaves kept leaves (e ∷ []) k k'
  stop_left k k' e made running stood accepted begins makes left =
      first.saved (λ k. state_of k.list) (λ k. k.archive) (λ a. (kept a).halted) leaves k k' e made running accepted begins makes
      (subst (λ (c : RepoState). leaves k.archive k'.archive (through c (e ∷ []))) stood left)

  -- nothing is done
  pub still : (stands : S → List RepoState → Type 0) → ((a : S) (cs : List RepoState) → stands a cs → leaves a a cs)
      → (k : Standing S) → IsSteady kept stands k → (asked : List Accepted) → StopLeaves kept leaves asked k k
  still stands stays k steady asked =
      first.still (λ k. state_of k.list) (λ k. k.archive) (λ a. (kept a).halted) leaves k asked
      (λ running. stays k.archive (state_of k.list ∷ []) (stands_now kept stands k steady running))
