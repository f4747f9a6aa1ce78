-- The items of a stream, and where it is faulty.
use Rattle.std.specs.Prelude.{◌≡◌, ℕ, ◌+◌, List, ◌++◌, take}
use Rattle.items.specs.{declared.scan.Defect.Defect, Values.{ItemValue, ItemValues, Limits, limits, IsWithin, AreWithin}, Spelling.{IsSpelled, AreSpelled}}
use Rattle.items.specs.declared.scan.Defect.TheVariants as defects

-- these bytes spell the item, which is within the limits
pub record IsItem (l : Limits) (t : ItemValue) (bytes : List ℕ) : Type 0 where
  pub spelled : IsSpelled t bytes
  pub within : IsWithin l 0 t

-- these bytes are a row of items
pub record IsRow (l : Limits) (ts : ItemValues) (bytes : List ℕ) : Type 0 where
  pub spelled : AreSpelled ts bytes
  pub within : AreWithin l 0 ts

-- no item begins the bytes
abbrev pub HasNoItem : List ℕ → Type 0
HasNoItem bytes =
    (t : ItemValue) (front rest : List ℕ) → IsItem limits t front → bytes ≡ front ++ rest → ⊥

-- the bytes go on to a row of items
pub record Begins (l : Limits) (bytes : List ℕ) : Type 0 where
  pub items : ItemValues
  pub rest : List ℕ
  pub row : IsRow l items (bytes ++ rest)

-- the stream is these items, and then less than a whole one
pub record Splits (stream : List ℕ) (items : ItemValues) (rest : List ℕ) : Type 0 where
  pub front : List ℕ
  pub whole : stream ≡ front ++ rest
  pub row : IsRow limits items front
  pub partial : HasNoItem rest

-- the first n bytes begin a row of items, and the first n + 1 don't
pub record IsFaulty (n : ℕ) (stream : List ℕ) : Type 0 where
  pub good : Begins limits (take n stream)
  pub bad : Begins limits (take (n + 1) stream) → ⊥

-- the limits but for one
abbrev pub Lifts : Defect → Limits → Type 0
Lifts defects.Malformed m = Unit {0}
Lifts defects.TooDeep m = (m.number ≡ limits.number) × (m.string ≡ limits.string)
Lifts defects.StringTooLong m = (m.depth ≡ limits.depth) × (m.number ≡ limits.number)
Lifts defects.NumberTooLarge m = (m.depth ≡ limits.depth) × (m.string ≡ limits.string)

-- what is wrong at the first byte that doesn't go on: under one limit less it does, or it does
-- under none
abbrev pub IsDefect : Defect → ℕ → List ℕ → Type 0
IsDefect defects.Malformed n stream = (m : Limits) → Begins m (take (n + 1) stream) → ⊥
IsDefect defects.TooDeep n stream =
    (m : Limits) × Lifts defects.TooDeep m × Begins m (take (n + 1) stream)
IsDefect defects.StringTooLong n stream =
    (m : Limits) × Lifts defects.StringTooLong m × Begins m (take (n + 1) stream)
IsDefect defects.NumberTooLarge n stream =
    (m : Limits) × Lifts defects.NumberTooLarge m × Begins m (take (n + 1) stream)
