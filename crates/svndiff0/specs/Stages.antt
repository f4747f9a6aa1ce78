-- How an applier's fields stand for what it holds.
use Rattle.std.specs.Prelude.{◌≡◌, ◌≢◌, ℕ, List, [], ◌++◌, Result, Ok, Err}
use Rattle.svndiff0.specs.{declared.fault.DiffFault.DiffFault, declared.fault.DiffFault.TheVariants.NoMemory, declared.stage.Stage.Stage}
use Rattle.svndiff0.specs.{declared.stage.Stage.TheVariants.{Header, Windows, Broken}, Document.{Reading, opening, going, broken}, Applying.{go_on, IsSound}}

abbrev pub reading_of : Stage → List ℕ → List ℕ → Reading
reading_of Header text rest = opening rest
reading_of Windows text rest = going text rest
reading_of (Broken f) text rest = broken f

-- there is no text before the header
abbrev pub HasTextOf : Stage → List ℕ → Type 0
HasTextOf Header text = text ≡ []
HasTextOf Windows text = Unit {0}
HasTextOf (Broken f) text = Unit {0}

-- What reading on from the bytes gives: a stage and the bytes that are left, or the rule that is
-- broken, unless memory ran out.
abbrev pub ReadsOn : {X : Type 0} → (X → List ℕ) → List ℕ → Reading → Result (Stage × X) DiffFault
    → List ℕ → List ℕ → Type 0
ReadsOn view base reading (Err f) bytes new = f ≢ NoMemory → go_on base reading ≡ broken f
ReadsOn view base reading (Ok x) bytes new =
    (go_on base reading ≡ reading_of x.0 new (view x.1)) × IsSound (reading_of x.0 new (view x.1))
    × HasTextOf x.0 new
    × ((front : List ℕ) × (bytes ≡ front ++ view x.1))
