-- Which bytes spell an item.
use Rattle.std.specs.Prelude.{◌≡◌, ℕ, ◌+◌, ◌-◌, ◌*◌, List, [], ◌∷◌, ◌++◌, length}
pub use Rattle.items.specs.Word.{EachPasses, IsSpace, IsDigit, IsWord}
use Rattle.items.specs.Values.{ItemValue, word, number, string, list, ItemValues, none, more}

-- the number that digits stand for, behind those of the number n
abbrev pub value_behind : ℕ → List ℕ → ℕ
value_behind n [] = n
value_behind n (d ∷ ds) = value_behind (10 * n + (d - 48)) ds

-- one digit or more, which stand for the number
abbrev pub IsNumeral : List ℕ → ℕ → Type 0
IsNumeral [] n = ⊥
IsNumeral (d ∷ ds) n = IsDigit d × EachPasses IsDigit ds × (value_behind (d - 48) ds ≡ n)

-- any whitespace, a body, and one whitespace byte
pub record Spaced (Body : List ℕ → Type 0) (bytes : List ℕ) : Type 0 where
  pub gap : List ℕ
  pub body : List ℕ
  pub last : ℕ
  pub spaces : EachPasses IsSpace gap
  pub middle : Body body
  pub ends : IsSpace last
  pub whole : bytes ≡ gap ++ (body ++ (last ∷ []))

-- one after another
pub record Joined (First Rest : List ℕ → Type 0) (bytes : List ℕ) : Type 0 where
  pub front : List ℕ
  pub rest : List ℕ
  pub first : First front
  pub others : Rest rest
  pub whole : bytes ≡ front ++ rest

-- `(`, one whitespace byte, the items, any whitespace, `)`
pub record Bracketed (Inner : List ℕ → Type 0) (bytes : List ℕ) : Type 0 where
  pub opening : ℕ
  pub inner : List ℕ
  pub gap : List ℕ
  pub opens : IsSpace opening
  pub middle : Inner inner
  pub spaces : EachPasses IsSpace gap
  pub whole : bytes ≡ 40 ∷ opening ∷ (inner ++ (gap ++ (41 ∷ [])))

-- a count, a colon, and that many bytes
pub record Counted (s bytes : List ℕ) : Type 0 where
  pub count : List ℕ
  pub numeral : IsNumeral count (length s)
  pub whole : bytes ≡ count ++ (58 ∷ s)

abbrev mutual
  pub IsBody : ItemValue → List ℕ → Type 0
  IsBody (word w) bytes = IsWord w × (bytes ≡ w)
  IsBody (number n) bytes = IsNumeral bytes n
  IsBody (string s) bytes = Counted s bytes
  IsBody (list ts) bytes = Bracketed (λ inner. AreSpelled ts inner) bytes

  -- these bytes are spellings of these items, one after another
  pub AreSpelled : ItemValues → List ℕ → Type 0
  AreSpelled none bytes = bytes ≡ []
  AreSpelled (more t ts) bytes = Joined (Spaced (λ body. IsBody t body)) (λ rest. AreSpelled ts rest) bytes

-- these bytes spell the item
abbrev pub IsSpelled : ItemValue → List ℕ → Type 0
IsSpelled t bytes = Spaced (IsBody t) bytes
