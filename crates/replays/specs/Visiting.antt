-- The names of a directory of which nothing is to be said.
use Rattle.std.specs.Prelude.{◌≡◌, ◌⊎◌, ℕ, false, Contains, List, [], ◌∷◌, ◌++◌, Option, Some, None}
use Rattle.svnpath.specs.Paths.{Component, is_at_or_under, PathValue}
use Rattle.repo_api.specs.{Histories.Changed, Readings.{is_name_among, IsSameAt, names_at}, States.RepoState}
use Rattle.traces.specs.declared.place.Place.{Place}

-- a list has nothing at a path or beneath it
abbrev pub HasNothingAt : List Changed → PathValue → Type 0
HasNothingAt run q = (e : Changed) → Contains run e → is_at_or_under e.0 q ≡ false

-- each name by which a list goes on beneath a path is one of these
abbrev pub HoldsRunNames : List Component → List Changed → PathValue → Type 0
HoldsRunNames names run p =
    (x : Component) → is_name_among names x ≡ false → HasNothingAt run (p ++ x ∷ [])

-- neither of two directories has the name
abbrev pub IsNowhere : RepoState → ℕ → PathValue → ℕ → PathValue → Component → Type 0
IsNowhere c n p m q x =
    (is_name_among (names_at c n p) x ≡ false) × (is_name_among (names_at c m q) x ≡ false)

-- neither has it, or at the name, and beneath it, the one has what the other has
abbrev pub IsAlikeAt : RepoState → ℕ → PathValue → ℕ → PathValue → Component → Type 0
IsAlikeAt c n p m q x =
    IsNowhere c n p m q x ⊎ IsSameAt c n (p ++ x ∷ []) m (q ++ x ∷ [])

-- at a name, and beneath it, a revision has what the client has, and its list has nothing; or
-- neither has the name
abbrev pub IsQuietName : RepoState → ℕ → PathValue → Option Place → List Changed → Component
    → Type 0
IsQuietName c r p None run x = is_name_among (names_at c r p) x ≡ false
IsQuietName c r p (Some at) run x =
    IsNowhere c at.revision at.path r p x
    ⊎ (IsSameAt c at.revision (at.path ++ x ∷ []) r (p ++ x ∷ []) × HasNothingAt run (p ++ x ∷ []))
