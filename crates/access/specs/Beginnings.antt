-- Beginnings of changes that were asked for, and what a repository contains on the way through them.
use Rattle.std.specs.Prelude.{◌≡◌, ◌⊎◌, List, [], ◌∷◌}
use Rattle.repo_api.specs.{Accepted.{Accepted, AreAccepted, changed, changed_all, IsAccepted}, States.RepoState}

-- one of these
abbrev pub IsAmong : RepoState → List RepoState → Type 0
IsAmong c [] = ⊥
IsAmong c (d ∷ ds) = (c ≡ d) ⊎ IsAmong c ds

abbrev pub AreAmong : List RepoState → List RepoState → Type 0
AreAmong cs ds = (c : RepoState) → IsAmong c cs → IsAmong c ds

-- what a repository contains before these changes, between them and behind them
abbrev pub through : RepoState → List Accepted → List RepoState
through c [] = c ∷ []
through c (e ∷ es) = c ∷ through (changed c e) es

-- the first of the changes that were asked for, each accepted in the state that those before it make
abbrev pub AreFirst : RepoState → List Accepted → List Accepted → Type 0
AreFirst c [] asked = Unit {0}
AreFirst c (e ∷ es) [] = ⊥
AreFirst c (e ∷ es) (a ∷ asked) = (e ≡ a) × IsAccepted c e × AreFirst (changed c e) es asked

-- the repository goes on from the one to the other by changes that the rules accept
abbrev pub GoesOnTo : RepoState → RepoState → Type 0
GoesOnTo c d = (es : List Accepted) × AreAccepted c es × (d ≡ changed_all c es)
