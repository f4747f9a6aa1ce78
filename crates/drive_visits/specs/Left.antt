-- What is left to be visited.
use Rattle.std.specs.Prelude.{◌≡◌, Bool, true, false, ◌||◌, List, [], ◌∷◌, ◌++◌, map}
use Rattle.svnpath.specs.Paths.{PathValue}
use Rattle.drive_rules.specs.{Places.is_in_directory, Scopes.{below, under}}
use Rattle.drive_visits.specs.{Knowing.visit_of, Nesting.{AreNested, entry_visit, entry_visits}, Visits.{IsRightPlan, Visit}}
use Rattle.drive_visits.specs.{Walks.{WalkedTrees, BothHold, deletes_of, goes_at, old_side}, declared.unvisited.Found.Found}
use Rattle.drive_visits.specs.{declared.unvisited.Found.TheVariants.{Nothing, Single, Entered}, declared.unvisited.Unvisited.Unvisited}
use Rattle.drive_visits.specs.Visits.Visit.{Close, Delete, Open}

-- ---- plans

-- These visits, at the path and under it, are a right drive from what is left of the old side, where
-- what goes there was taken out before, and have their places. The old side is nothing where the
-- entry or its directory comes anew.
pub record IsPlanOf (t : WalkedTrees) (anew : Bool) (p : PathValue) (vs : List Visit) : Type 0 where
  pub right : BothHold t.apart t.old t.new p
      → IsRightPlan t.counts (under p) t.due t.apart (old_side (anew || goes_at t p) t.old)
      t.new t.own vs
  pub nests : (top d : PathValue) → is_in_directory top d p ≡ true → AreNested t.new top d vs

-- so are these, below the path
pub record IsPlanBelow (t : WalkedTrees) (anew : Bool) (p : PathValue) (vs : List Visit)
    : Type 0 where
  pub right : BothHold t.apart t.old t.new p
      → IsRightPlan t.counts (below p) t.due t.apart (old_side anew t.old) t.new t.own vs
  pub nests : (top : PathValue) → AreNested t.new top p vs

-- an entry is entered, and then come the visits below it, which are none below a file
pub record IsEntry (t : WalkedTrees) (anew directory : Bool) (p : PathValue) (vs : List Visit)
    : Type 0 where
  pub rest : List Visit
  pub is : vs ≡ entry_visits directory (entry_visit anew directory p) rest
  pub file : directory ≡ false → rest ≡ []
  pub plan : IsPlanBelow t anew p rest

-- an entry stays, and nothing is to be said of it or of what is under it
abbrev pub IsSilent : WalkedTrees → PathValue → Type 0
IsSilent t p = (goes_at t p ≡ false) × IsPlanOf t false p []

-- these visits below the root, which is opened before, are a right drive and have their places
pub record IsRootPlan (t : WalkedTrees) (vs : List Visit) : Type 0 where
  pub right : BothHold t.apart t.old t.new []
      → IsRightPlan t.counts (under []) t.due t.apart t.old t.new t.own (Open [] true ∷ vs)
  pub nests : AreNested t.new [] [] vs

-- so are these, from a top on
pub record IsTopPlan (t : WalkedTrees) (top : PathValue) (vs : List Visit) : Type 0 where
  pub right : BothHold t.apart t.old t.new top
      → IsRightPlan t.counts (under top) t.due t.apart t.old t.new t.own vs
  pub nests : (d : PathValue) → is_in_directory top d top ≡ true → AreNested t.new top d vs

-- visits of each of the paths, one after the other
abbrev pub ArePlansOf : WalkedTrees → Bool → List PathValue → List Visit → Type 0
ArePlansOf t anew [] vs = vs ≡ []
ArePlansOf t anew (p ∷ ps) vs =
    (now : List Visit) × (later : List Visit) × (vs ≡ now ++ later) × IsPlanOf t anew p now
    × ArePlansOf t anew ps later

-- ---- what is left

-- these visits are of all that is at and under these paths: what goes, and then each entry
abbrev pub AreVisitsOf : WalkedTrees → Bool → List PathValue → List Visit → Type 0
AreVisitsOf t anew ps vs =
    (later : List Visit) × (vs ≡ deletes_of anew t.apart t.old t.new ps ++ later)
    × ArePlansOf t anew ps later

-- these may be the visits of what is left in a directory
abbrev pub IsLeftIn : {K : Type 0} → WalkedTrees → Unvisited K → List Visit → Type 0
IsLeftIn t d vs =
    (later : List Visit) × (vs ≡ map Delete d.deletes.items ++ later)
    × ArePlansOf t d.is_anew d.entries.items later

-- the visits behind those of a directory, which is closed, unless no other is open around it
abbrev pub behind : {K : Type 0} → List (Unvisited K) → List Visit → List Visit
behind [] vs = vs
behind (d ∷ ds) vs = Close ∷ vs

-- these may be the visits of what is left in the directories that are open, the innermost first
abbrev pub IsLeft : {K : Type 0} → WalkedTrees → List (Unvisited K) → List Visit → Type 0
IsLeft t [] vs = vs ≡ []
IsLeft t (d ∷ ds) vs =
    (now : List Visit) × (later : List Visit) × (vs ≡ now ++ behind ds later) × IsLeftIn t d now
    × IsLeft t ds later

-- these may be the visits of what was found next, with those below it
abbrev pub IsFound : {K : Type 0} → WalkedTrees → Found K → List Visit → Type 0
IsFound t Nothing vs = vs ≡ []
IsFound t (Single v) vs = vs ≡ visit_of v ∷ []
IsFound t (Entered v d) vs =
    (rest : List Visit) × (vs ≡ visit_of v ∷ (rest ++ Close ∷ [])) × IsLeftIn t d rest

-- what was found comes next in a directory; where nothing was found, nothing was left
pub record IsNextFound {K : Type 0} (t : WalkedTrees) (old new : Unvisited K) (found : Found K)
    : Type 0 where
  pub next : (vs more : List Visit) → IsFound t found vs → IsLeftIn t new more
      → IsLeftIn t old (vs ++ more)
  pub end : found ≡ Nothing → IsLeftIn t old []
