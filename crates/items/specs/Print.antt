-- The bytes that are written for an item.
use Rattle.std.specs.{Prelude.{◌≡◌, ℕ, List, [], ◌∷◌, ◌++◌, length, Result, MatchResult, Vec}, declared.alloc.Global.Global, Fmt.decimal}
use Rattle.items.specs.Values.{ItemValue, word, number, string, list, ItemValues, none, more}

-- each token, and each bracket, with one space behind it
abbrev mutual
  pub printed : ItemValue → List ℕ
  printed (word w) = w ++ (32 ∷ [])
  printed (number n) = decimal n ++ (32 ∷ [])
  printed (string s) = decimal (length s) ++ (58 ∷ (s ++ (32 ∷ [])))
  printed (list ts) = (40 ∷ 32 ∷ []) ++ (row_printed ts ++ (41 ∷ 32 ∷ []))

  pub row_printed : ItemValues → List ℕ
  row_printed none = []
  row_printed (more t ts) = printed t ++ row_printed ts

-- the old bytes stay in front
abbrev pub Grows : List ℕ → List ℕ → Type 0
Grows old new = (more : List ℕ) × (new ≡ old ++ more)

-- ---- as results

-- these bytes are appended; or, where there is an error, the old bytes stay in front
abbrev pub AppendsBytes : {T E : Type 0} → Result T E → Vec ℕ Global → List ℕ → Vec ℕ Global
    → Type 0
AppendsBytes r old bytes new =
    MatchResult r (λ _. new.items ≡ old.items ++ bytes) (λ _. Grows old.items new.items)

-- so is what is printed for this item
abbrev pub AppendsItem : {T E : Type 0} → Result T E → Vec ℕ Global → ItemValue → Vec ℕ Global
    → Type 0
AppendsItem r old item new = AppendsBytes r old (printed item) new

-- so is what is printed for these, one after another
abbrev pub AppendsItems : {T E : Type 0} → Result T E → Vec ℕ Global → ItemValues → Vec ℕ Global
    → Type 0
AppendsItems r old items new = AppendsBytes r old (row_printed items) new

-- what is printed for this item is appended; or, where there is an error, nothing is
abbrev pub WritesItem : {T E : Type 0} → Result T E → Vec ℕ Global → ItemValue → Vec ℕ Global
    → Type 0
WritesItem r old item new =
    MatchResult r (λ _. new.items ≡ old.items ++ printed item) (λ _. new.items ≡ old.items)
