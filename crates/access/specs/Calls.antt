-- What a stop leaves within a call, and within one call after another.
use Rattle.std.specs.Prelude.{◌≡◌, ◌⊎◌, Bool, true, false, List, [], ◌∷◌}
use mathlib.Core.List.{IsPrefix}
use Rattle.repo_api.specs.{Accepted.{Accepted, changed_all}, States.RepoState}
use Rattle.access.specs.Beginnings.{AreFirst, IsAmong, through}

-- From one moment to another, with what the repository contains at each: of the changes that were asked for the first that
-- the rules accept are saved, and those are made, or the first of those; and a stop at any moment between the two leaves the
-- files of the repository before them, between them or behind them.
pub record SavesFirst {A : Type 0} (leaves : A → A → List RepoState → Type 0) (asked : List Accepted)
    (before : RepoState) (a : A) (after : RepoState) (b : A) : Type 0 where
  pub saved : List Accepted
  pub first : AreFirst before saved asked
  pub made : List Accepted
  pub begins : IsPrefix made saved
  pub makes : after ≡ changed_all before made
  pub stop : leaves a b (through before saved)

module _ {K A : Type 0} (content : K → RepoState) (files : K → A) (halted : A → Bool)
    (leaves : A → A → List RepoState → Type 0) where
  -- a call that asks for these changes saves the first of them; where changes have come to a halt, nothing is done
  abbrev pub CallLeaves : List Accepted → K → K → Type 0
  CallLeaves asked k k' =
      (halted (files k) ≡ false → SavesFirst leaves asked (content k) (files k) (content k') (files k'))
      × (halted (files k) ≡ true → (content k' ≡ content k) × (files k' ≡ files k))

  -- one call after another, each by the changes for which it asks, and what stands behind it
  abbrev pub AreCalls : K → List (List Accepted × K) → Type 0
  AreCalls k [] = Unit {0}
  AreCalls k (call ∷ calls) = CallLeaves call.0 k call.1 × AreCalls call.1 calls

-- what stands behind the last call
abbrev pub after_calls : {K : Type 0} → K → List (List Accepted × K) → K
after_calls k [] = k
after_calls k (call ∷ calls) = after_calls call.1 calls

-- the repository within one of the calls, or behind the last: it contains what it does as that call begins, and the first
-- of the changes for which the call asks
abbrev pub IsWithin : {K : Type 0} → (K → RepoState) → K → List (List Accepted × K) → RepoState → Type 0
IsWithin content k [] c = c ≡ content k
IsWithin content k (call ∷ calls) c =
    ((saved : List Accepted) × AreFirst (content k) saved call.0 × IsAmong c (through (content k) saved))
    ⊎ IsWithin content call.1 calls c
