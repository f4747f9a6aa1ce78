-- From where on the dates of revisions rise.
use Rattle.std.specs.Prelude.{◌≡◌, ◌≤◌, ℕ, suc, true, List, slice_get}
use Rattle.repo_api.specs.{Dates.{date_of, is_up_to}, Kinds.or_empty, Properties.PropertyList}

-- the properties of a revision
abbrev pub list_at : List PropertyList → ℕ → PropertyList
list_at ps n = or_empty (slice_get ps n)

-- the one is dated up to each date that the other is dated up to
abbrev pub IsNoLater : PropertyList → PropertyList → Type 0
IsNoLater one other =
    (date : List ℕ) → is_up_to date (date_of other) ≡ true → is_up_to date (date_of one) ≡ true

-- so is each revision, from this one on, compared with the next
abbrev pub RisesFrom : List PropertyList → ℕ → Type 0
RisesFrom ps from = (n : ℕ) → from ≤ n → IsNoLater (list_at ps n) (list_at ps (suc n))

-- so is each of these but the one at the place, and the one before it
abbrev pub RisesButAt : List PropertyList → ℕ → ℕ → Type 0
RisesButAt ps place from =
    (n : ℕ) → from ≤ n → (n ≡ place → ⊥) → (suc n ≡ place → ⊥)
    → IsNoLater (list_at ps n) (list_at ps (suc n))

-- so is the one before the place
abbrev pub RisesTo : List PropertyList → ℕ → Type 0
RisesTo ps place = (n : ℕ) → suc n ≡ place → IsNoLater (list_at ps n) (list_at ps (suc n))
