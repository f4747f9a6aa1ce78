-- The item that bytes spell, read from the front, where they spell one.
use Rattle.std.specs.Prelude.{ℕ, zero, suc, ◌+◌, ◌-◌, ◌*◌, ◌==◌, if◌then◌else◌, min, IsTrue, List, [], ◌∷◌, take, drop, length}
use Rattle.std.specs.Char.{is_ascii_digit, is_ascii_alphabetic}
use Rattle.items.specs.{Word.{is_space, is_word_byte}, Values.{ItemValue, word, number, string, list, ItemValues, none, more}}

-- what lies behind the whitespace at the front
unfoldable pub behind_spaces : List ℕ → List ℕ
behind_spaces [] = []
behind_spaces (b ∷ bs) = if is_space b then behind_spaces bs else b ∷ bs

-- how many bytes of a word lie at the front
unfoldable pub word_len : List ℕ → ℕ
word_len [] = 0
word_len (b ∷ bs) = if is_word_byte b then suc (word_len bs) else 0

-- the number that the digits at the front stand for, behind n, and what lies behind them
unfoldable pub numeral_at : ℕ → List ℕ → ℕ × List ℕ
numeral_at n [] = (n, [])
numeral_at n (b ∷ bs) =
    if is_ascii_digit b
    then numeral_at (min (min (10 * n) 18446744073709551615 + (b - 48)) 18446744073709551615) bs
    else (n, b ∷ bs)

-- behind digits: a string where there is a colon
unfoldable pub behind_numeral : ℕ → List ℕ → ItemValue × List ℕ
behind_numeral n [] = (number n, [])
behind_numeral n (b ∷ bs) =
    if b == 58 then (string (take n bs), drop (n + 1) bs) else (number n, bs)

abbrev pub as_list : ItemValues × List ℕ → ItemValue × List ℕ
as_list p = (list p.0, p.1)

-- a word of that first letter
abbrev pub word_at : ℕ → List ℕ → ItemValue × List ℕ
word_at b bs = (word (b ∷ take (word_len bs) bs), drop (word_len bs + 1) bs)

-- a letter comes first
abbrev pub StartsWord : List ℕ → Type 0
StartsWord [] = ⊥
StartsWord (b ∷ bs) = IsTrue (is_ascii_alphabetic b)

-- the first byte tells what it is
unfoldable pub read_with : (List ℕ → ItemValues × List ℕ) → List ℕ → ItemValue × List ℕ
read_with row [] = (number 0, [])
read_with row (b ∷ bs) =
    if b == 40 then as_list (row (drop 1 bs))
    else if is_ascii_digit b then (let n = numeral_at 0 (b ∷ bs) in behind_numeral n.0 n.1)
    else if is_ascii_alphabetic b then word_at b bs
    else (number 0, bs)

abbrev pub with_item : ItemValue × List ℕ → (List ℕ → ItemValues × List ℕ) → ItemValues × List ℕ
with_item p go = (let q = go p.1 in (more p.0 q.0, q.1))

-- one turn of a row, at a byte that is no whitespace
abbrev pub row_turn : (List ℕ → ItemValue × List ℕ) → (List ℕ → ItemValues × List ℕ) → List ℕ
    → ItemValues × List ℕ
row_turn read go [] = (none, [])
row_turn read go (b ∷ bs) = if b == 41 then (none, drop 1 bs) else with_item (read (b ∷ bs)) go

-- items up to a `)`; the number bounds the turns
unfoldable pub row_with : (List ℕ → ItemValue × List ℕ) → ℕ → List ℕ → ItemValues × List ℕ
row_with read zero bytes = (none, [])
row_with read (suc n) bytes = row_turn read (row_with read n) (behind_spaces bytes)

-- the item at the front, with at most so many lists in one another, and what lies behind it
unfoldable pub read : ℕ → List ℕ → ItemValue × List ℕ
read zero bytes = read_with (λ bs. (none, [])) (behind_spaces bytes)
read (suc d) bytes = read_with (λ bs. row_with (read d) (length bs) bs) (behind_spaces bytes)

-- what reads the items of a list behind its opening
abbrev pub row_reader : ℕ → List ℕ → ItemValues × List ℕ
row_reader zero bs = (none, [])
row_reader (suc d) bs = row_with (read d) (length bs) bs
