-- The classes of bytes, and words.
use Rattle.std.specs.{Prelude.{ℕ, Bool, ◌||◌, ◌==◌, List, [], ◌∷◌, IsTrue}, Char.{is_ascii_digit, is_ascii_alphabetic, is_ascii_alphanumeric}}

abbrev pub is_space : ℕ → Bool
is_space b = (b == 32) || (b == 10)

abbrev pub is_word_byte : ℕ → Bool
is_word_byte b = is_ascii_alphanumeric b || (b == 45)

abbrev pub EachPasses : (ℕ → Type 0) → List ℕ → Type 0
EachPasses P [] = Unit {0}
EachPasses P (b ∷ bs) = P b × EachPasses P bs

abbrev pub IsSpace : ℕ → Type 0
IsSpace b = IsTrue (is_space b)

abbrev pub IsDigit : ℕ → Type 0
IsDigit b = IsTrue (is_ascii_digit b)

-- a letter, then letters, digits and dashes
abbrev pub IsWord : List ℕ → Type 0
IsWord [] = ⊥
IsWord (b ∷ bs) = IsTrue (is_ascii_alphabetic b) × EachPasses (λ c. IsTrue (is_word_byte c)) bs
