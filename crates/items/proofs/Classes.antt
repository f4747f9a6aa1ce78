-- The classes of bytes lie apart.
use Rattle.std.proofs.{Common.{◌≡◌, ℕ, ◌≤◌, ◌*◌, ◌+◌, ◌-◌, List, [], ◌∷◌, true, false, ◌==◌, nat_le, arith}, lemmas.Bool.Decides.nat_tests}
use Rattle.std.specs.Char.{is_ascii_digit, is_ascii_alphabetic}
use Rattle.items.specs.{Word.{is_space, is_word_byte}, Spelling.value_behind}

pub space-no_word : (b : ℕ) → is_space b ≡ true → is_word_byte b ≡ false
space-no_word b h = grind (arith, nat_tests)

pub space-no_digit : (b : ℕ) → is_space b ≡ true → is_ascii_digit b ≡ false
space-no_digit b h = grind (arith, nat_tests)

pub space-no_colon : (b : ℕ) → is_space b ≡ true → (b == 58) ≡ false
space-no_colon b h = grind (arith, nat_tests)

pub digit-no_space : (b : ℕ) → is_ascii_digit b ≡ true → is_space b ≡ false
digit-no_space b h = grind (arith, nat_tests)

pub digit-no_opening : (b : ℕ) → is_ascii_digit b ≡ true → (b == 40) ≡ false
digit-no_opening b h = grind (arith, nat_tests)

pub digit-no_closing : (b : ℕ) → is_ascii_digit b ≡ true → (b == 41) ≡ false
digit-no_closing b h = grind (arith, nat_tests)

pub letter-no_space : (b : ℕ) → is_ascii_alphabetic b ≡ true → is_space b ≡ false
letter-no_space b h = grind (arith, nat_tests)

pub letter-no_opening : (b : ℕ) → is_ascii_alphabetic b ≡ true → (b == 40) ≡ false
letter-no_opening b h = grind (arith, nat_tests)

pub letter-no_closing : (b : ℕ) → is_ascii_alphabetic b ≡ true → (b == 41) ≡ false
letter-no_closing b h = grind (arith, nat_tests)

pub letter-no_digit : (b : ℕ) → is_ascii_alphabetic b ≡ true → is_ascii_digit b ≡ false
letter-no_digit b h = grind (arith, nat_tests)

pub le-test : (a b : ℕ) → a ≤ b → nat_le a b ≡ true
le-test a b h = grind (arith, nat_tests)

-- the number only grows
pub value-grows : (n : ℕ) (ds : List ℕ) → n ≤ value_behind n ds
value-grows n [] = omega arith
value-grows n (d ∷ ds) = omega (arith, value-grows (10 * n + (d - 48)) ds)
