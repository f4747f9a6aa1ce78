-- What is known of paths.
use Rattle.std.specs.Prelude.{◌≡◌, ◌⊎◌, List, map, All}
use Rattle.svnpath.specs.Paths.{PathValue}
use Rattle.drive_visits.specs.{declared.known_path.KnownPath.KnownPath, declared.unvisited.Found.Found}
use Rattle.drive_visits.specs.{declared.unvisited.Found.TheVariants.{Nothing, Single, Entered}, declared.unvisited.Unvisited.Unvisited}
use Rattle.drive_visits.specs.{declared.memory.Memory.Memory, declared.visitor.Visitor.Visitor, declared.visit.KnownVisit.KnownVisit, Visits.Visit}
use Rattle.drive_visits.specs.Walks.{IsChild}
use Rattle.drive_visits.specs.declared.visit.KnownVisit.TheVariants as known

-- what goes with a path is known of it
abbrev pub IsKnown : {K : Type 0} → (K → PathValue → Type 0) → KnownPath K → Type 0
IsKnown knows place = knows place.known place.path

-- so it is with each of these
abbrev pub AreKnown : {K : Type 0} → (K → PathValue → Type 0) → List (KnownPath K) → Type 0
AreKnown knows places = All (IsKnown knows) places

-- this is the path, with what is known of it
abbrev pub IsKnownAt : {K : Type 0} → (K → PathValue → Type 0) → PathValue → KnownPath K → Type 0
IsKnownAt knows p place = (place.path ≡ p) × IsKnown knows place

-- the paths alone
abbrev pub paths_of : {K : Type 0} → List (KnownPath K) → List PathValue
paths_of places = map (λ place. place.path) places

-- a path is this one or in it
abbrev pub IsReached : PathValue → PathValue → Type 0
IsReached p x = (x ≡ p) ⊎ IsChild p x

-- what goes with a path is known of it, and what is left is that path or in it
pub record AreLeftKnown {K : Type 0} (knows : K → PathValue → Type 0) (here : Unvisited K)
    : Type 0 where
  pub from : IsKnown knows here.from
  pub near : All (IsReached here.from.path) here.entries.items

-- a visit without what is known of its path
abbrev pub visit_of : {K : Type 0} → KnownVisit K → Visit
visit_of (known.Open place directory) = Visit.Open place.path directory
visit_of (known.Add place directory) = Visit.Add place.path directory
visit_of (known.Delete p) = Visit.Delete p
visit_of known.Close = Visit.Close

-- what goes with the path of an entry that a visit enters is known of it
abbrev pub IsVisitKnown : {K : Type 0} → (K → PathValue → Type 0) → KnownVisit K → Type 0
IsVisitKnown knows (known.Open place directory) = IsKnown knows place
IsVisitKnown knows (known.Add place directory) = IsKnown knows place
IsVisitKnown knows (known.Delete p) = Unit {0}
IsVisitKnown knows known.Close = Unit {0}

-- a visit enters this entry
abbrev pub IsVisitTo : {K : Type 0} → KnownPath K → KnownVisit K → Type 0
IsVisitTo entry (known.Open place directory) = place ≡ entry
IsVisitTo entry (known.Add place directory) = place ≡ entry
IsVisitTo entry (known.Delete p) = ⊥
IsVisitTo entry known.Close = ⊥

-- so it is with what was found, and with the paths below it
abbrev pub IsFoundKnown : {K : Type 0} → (K → PathValue → Type 0) → Found K → Type 0
IsFoundKnown knows Nothing = Unit {0}
IsFoundKnown knows (Single visit) = IsVisitKnown knows visit
IsFoundKnown knows (Entered visit below) = IsVisitKnown knows visit × AreLeftKnown knows below

-- with those that are remembered
abbrev pub AreSilentKnown : {K : Type 0} → (K → PathValue → Type 0) → Memory K → Type 0
AreSilentKnown knows memory = All (λ s. IsKnown knows s.place) memory.silent.items

-- and with all that a visitor holds
pub record HoldsKnown {K : Type 0} (knows : K → PathValue → Type 0) (visitor : Visitor K)
    : Type 0 where
  pub left : All (AreLeftKnown knows) visitor.open.items
  pub memory : AreSilentKnown knows visitor.memory
