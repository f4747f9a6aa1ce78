-- What a visitor has left.
use Rattle.std.specs.Prelude.{◌≡◌, List, [], ◌∷◌, Option, MatchOption}
use Rattle.drive_visits.specs.{Left.IsLeft, Remembered.Remembers, Walks.WalkedTrees, declared.unvisited.Unvisited.Unvisited, Visits.Visit}
use Rattle.drive_visits.specs.declared.visitor.Visitor.{Visitor}

-- these may be the visits that a visitor has left, if what it remembers is so
abbrev pub MayVisit : {K : Type 0} → WalkedTrees → Visitor K → List Visit → Type 0
MayVisit t visitor visits = Remembers t visitor.memory → IsLeft t visitor.open.items visits

-- the visits go on by this one, or have come to their end
abbrev pub IsNext : {K : Type 0} → WalkedTrees → Visitor K → Visitor K → Option Visit → Type 0
IsNext t old new found = MatchOption found (MayVisit t old [])
    (λ v. (vs : List Visit) → MayVisit t new vs → MayVisit t old (v ∷ vs))

-- a visitor is at its beginning: one directory is open, what it remembers is so of any trees, and it
-- remembers no path without news
pub record IsNew {K : Type 0} (visitor : Visitor K) (here : Unvisited K) : Type 0 where
  pub first : visitor.open.items ≡ here ∷ []
  pub memory : (t : WalkedTrees) → Remembers t visitor.memory
  pub silent : visitor.memory.silent.items ≡ []
