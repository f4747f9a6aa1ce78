-- The turns of the loops over bytes, and over the items of a list.
use Rattle.std.proofs.Common.{◌≡◌, ◌≢◌, ℕ, zero, suc, ◌+◌, ◌-◌, ◌*◌, ◌<◌, min, List, [], ◌∷◌, ◌++◌, length, get_or, drop, map, true, false, ◌==◌, refl, sym, ap}
use Rattle.std.proofs.Common.{ap₂, ◌∙◌, drop-cons, drop_of_length-le, le_refl, arith}
use Rattle.std.specs.Char.{is_ascii_digit}
use Rattle.items.specs.{declared.item.Item.Item, Word.{is_space, is_word_byte}, Values.{ItemValue, ItemValues, none, more}, View.{row_of, value_of, values_of}}
use Rattle.items.specs.Build.{read, behind_spaces, word_len, numeral_at, with_item, row_turn, row_with, row_reader}

drop-at : (bytes : List ℕ) (i : ℕ) → i < length bytes → drop i bytes ≡ get_or bytes i 0 ∷ drop (i + 1) bytes
drop-at bytes i h = let e : suc i ≡ i + 1 = omega arith in drop-cons bytes i 0 h ∙ ap (λ k. get_or bytes i 0 ∷ drop k bytes) e

drop-end : (bytes : List ℕ) → drop (length bytes) bytes ≡ []
drop-end bytes = drop_of_length-le bytes (le_refl (length bytes))

spaces-first : (b : ℕ) (bs : List ℕ) → is_space b ≡ true → behind_spaces (b ∷ bs) ≡ behind_spaces bs
unfolding behind_spaces
spaces-first b bs h = rw h

spaces-none : (b : ℕ) (bs : List ℕ) → is_space b ≡ false → behind_spaces (b ∷ bs) ≡ b ∷ bs
unfolding behind_spaces
spaces-none b bs h = rw h

spaces-empty : behind_spaces [] ≡ []
unfolding behind_spaces
spaces-empty = refl

pub spaces_on : (bytes : List ℕ) (i : ℕ) → i < length bytes → is_space (get_or bytes i 0) ≡ true → behind_spaces (drop i bytes) ≡ behind_spaces (drop (i + 1) bytes)
spaces_on bytes i h e = ap behind_spaces (drop-at bytes i h) ∙ spaces-first (get_or bytes i 0) (drop (i + 1) bytes) e

pub spaces_stop : (bytes : List ℕ) (i : ℕ) → i < length bytes → is_space (get_or bytes i 0) ≡ false → behind_spaces (drop i bytes) ≡ drop i bytes
spaces_stop bytes i h e = ap behind_spaces (drop-at bytes i h) ∙ spaces-none (get_or bytes i 0) (drop (i + 1) bytes) e ∙ sym (drop-at bytes i h)

pub spaces_end : (bytes : List ℕ) → behind_spaces (drop (length bytes) bytes) ≡ drop (length bytes) bytes
spaces_end bytes = ap behind_spaces (drop-end bytes) ∙ spaces-empty ∙ sym (drop-end bytes)

letters-first : (b : ℕ) (bs : List ℕ) → is_word_byte b ≡ true → word_len (b ∷ bs) ≡ suc (word_len bs)
unfolding word_len
letters-first b bs h = rw h

letters-none : (b : ℕ) (bs : List ℕ) → is_word_byte b ≡ false → word_len (b ∷ bs) ≡ 0
unfolding word_len
letters-none b bs h = rw h

letters-empty : word_len [] ≡ 0
unfolding word_len
letters-empty = refl

pub letters_on : (bytes : List ℕ) (i : ℕ) → i < length bytes → is_word_byte (get_or bytes i 0) ≡ true → word_len (drop i bytes) ≡ 1 + word_len (drop (i + 1) bytes)
letters_on bytes i h e =
    let one : suc (word_len (drop (i + 1) bytes)) ≡ 1 + word_len (drop (i + 1) bytes) = omega arith in
    ap word_len (drop-at bytes i h) ∙ letters-first (get_or bytes i 0) (drop (i + 1) bytes) e ∙ one

pub letters_stop : (bytes : List ℕ) (i : ℕ) → i < length bytes → is_word_byte (get_or bytes i 0) ≡ false → word_len (drop i bytes) ≡ 0
letters_stop bytes i h e = ap word_len (drop-at bytes i h) ∙ letters-none (get_or bytes i 0) (drop (i + 1) bytes) e

pub letters_end : (bytes : List ℕ) → word_len (drop (length bytes) bytes) ≡ 0
letters_end bytes = ap word_len (drop-end bytes) ∙ letters-empty

digits-first : (n b : ℕ) (bs : List ℕ) → is_ascii_digit b ≡ true → numeral_at n (b ∷ bs) ≡ numeral_at (min (min (10 * n) 18446744073709551615 + (b - 48)) 18446744073709551615) bs
unfolding numeral_at
digits-first n b bs h = rw h

digits-none : (n b : ℕ) (bs : List ℕ) → is_ascii_digit b ≡ false → numeral_at n (b ∷ bs) ≡ (n, b ∷ bs)
unfolding numeral_at
digits-none n b bs h = rw h

digits-empty : (n : ℕ) → numeral_at n [] ≡ (n, [])
unfolding numeral_at
digits-empty n = refl

pub digits_on : (bytes : List ℕ) (i n : ℕ) → i < length bytes → is_ascii_digit (get_or bytes i 0) ≡ true
    → numeral_at n (drop i bytes) ≡ numeral_at (min (min (10 * n) 18446744073709551615 + (get_or bytes i 0 - 48)) 18446744073709551615) (drop (i + 1) bytes)
digits_on bytes i n h e = ap (numeral_at n) (drop-at bytes i h) ∙ digits-first n (get_or bytes i 0) (drop (i + 1) bytes) e

pub digits_stop : (bytes : List ℕ) (i n : ℕ) → i < length bytes → is_ascii_digit (get_or bytes i 0) ≡ false → numeral_at n (drop i bytes) ≡ (n, drop i bytes)
digits_stop bytes i n h e = ap (numeral_at n) (drop-at bytes i h) ∙ digits-none n (get_or bytes i 0) (drop (i + 1) bytes) e ∙ ap (λ x. (n, x)) (sym (drop-at bytes i h))

pub digits_end : (bytes : List ℕ) (n : ℕ) → numeral_at n (drop (length bytes) bytes) ≡ (n, drop (length bytes) bytes)
digits_end bytes n = ap (numeral_at n) (drop-end bytes) ∙ digits-empty n ∙ ap (λ x. (n, x)) (sym (drop-end bytes))

-- these items stand before the others
abbrev pub joined : List ItemValue → ItemValues → ItemValues
joined [] r = r
joined (t ∷ ts) r = more t (joined ts r)

abbrev pub before : List Item → ItemValues × List ℕ → ItemValues × List ℕ
before items q = (joined (map value_of items) q.0, q.1)

joined-snoc : (items : List Item) (i : Item) (r : ItemValues) → joined (map value_of (items ++ (i ∷ []))) r ≡ joined (map value_of items) (more (value_of i) r)
joined-snoc [] i r = refl
joined-snoc (x ∷ xs) i r = ap (more (value_of x)) (joined-snoc xs i r)

joined-none : (ts : List ItemValue) → joined ts none ≡ row_of ts
joined-none [] = refl
joined-none (t ∷ ts) = ap (more t) (joined-none ts)

-- an item more
turned : (read : List ℕ → ItemValue × List ℕ) (n : ℕ) (bytes : List ℕ) → row_with read (suc n) bytes ≡ row_turn read (row_with read n) (behind_spaces bytes)
unfolding row_with
turned read n bytes = refl

turn-more : (read : List ℕ → ItemValue × List ℕ) (go : List ℕ → ItemValues × List ℕ) (bytes : List ℕ) → 0 < length bytes → (get_or bytes 0 0 == 41) ≡ false → row_turn read go bytes ≡ with_item (read bytes) go
turn-more read go [] h e = let never : ⊥ = omega arith in absurd never
turn-more read go (b ∷ bs) h e = rw e

turn-last : (read : List ℕ → ItemValue × List ℕ) (go : List ℕ → ItemValues × List ℕ) (bytes : List ℕ) → 0 < length bytes → (get_or bytes 0 0 == 41) ≡ true → row_turn read go bytes ≡ (none, drop 1 (drop 1 bytes))
turn-last read go [] h e = let never : ⊥ = omega arith in absurd never
turn-last read go (b ∷ bs) h e = rw e

pub row_on : (read : List ℕ → ItemValue × List ℕ) (n m : ℕ) (items after : List Item) (rest skipped behind : List ℕ) (i : Item) (whole : ItemValues × List ℕ)
    → n ≡ suc m → whole ≡ before items (row_with read n rest) → skipped ≡ behind_spaces rest → 0 < length skipped → (get_or skipped 0 0 == 41) ≡ false → (value_of i, behind) ≡ read skipped → after ≡ items ++ (i ∷ []) → whole ≡ before after (row_with read m behind)
row_on read n m items after rest skipped behind i whole e h s some opens r a =
    h
    ∙ ap (λ k. before items (row_with read k rest)) e
    ∙ ap (before items) (turned read m rest ∙ ap (row_turn read (row_with read m)) (sym s) ∙ turn-more read (row_with read m) skipped some opens ∙ ap (λ p. with_item p (row_with read m)) (sym r))
    ∙ ap (λ x. (x, (row_with read m behind).1)) (sym (joined-snoc items i (row_with read m behind).0))
    ∙ ap (λ x. before x (row_with read m behind)) (sym a)

-- the list ends
pub row_closes : (read : List ℕ → ItemValue × List ℕ) (n m : ℕ) (items : List Item) (rest skipped : List ℕ) (whole : ItemValues × List ℕ)
    → n ≡ suc m → whole ≡ before items (row_with read n rest) → skipped ≡ behind_spaces rest → 0 < length skipped → (get_or skipped 0 0 == 41) ≡ true → (values_of items, drop 1 (drop 1 skipped)) ≡ whole
row_closes read n m items rest skipped whole e h s some closes =
    sym (h
    ∙ ap (λ k. before items (row_with read k rest)) e
    ∙ ap (before items) (turned read m rest ∙ ap (row_turn read (row_with read m)) (sym s) ∙ turn-last read (row_with read m) skipped some closes)
    ∙ ap (λ x. (x, drop 1 (drop 1 skipped))) (joined-none (map value_of items)))

no_bytes : (bytes : List ℕ) → length bytes ≡ 0 → bytes ≡ []
no_bytes [] h = refl
no_bytes (b ∷ bs) h = let never : ⊥ = omega arith in absurd never

-- the bytes end
pub row_stops : (read : List ℕ → ItemValue × List ℕ) (n m : ℕ) (items : List Item) (rest skipped : List ℕ) (whole : ItemValues × List ℕ)
    → n ≡ suc m → whole ≡ before items (row_with read n rest) → skipped ≡ behind_spaces rest → length skipped ≡ 0 → (values_of items, skipped) ≡ whole
row_stops read n m items rest skipped whole e h s empty =
    let nothing = no_bytes skipped empty in
    sym (h
    ∙ ap (λ k. before items (row_with read k rest)) e
    ∙ ap (before items) (turned read m rest ∙ ap (row_turn read (row_with read m)) (sym s ∙ nothing))
    ∙ ap₂ (λ x y. (x, y)) (joined-none (map value_of items)) (sym nothing))

row-none : (read : List ℕ → ItemValue × List ℕ) (bytes : List ℕ) → row_with read 0 bytes ≡ (none, [])
unfolding row_with
row-none read bytes = refl

-- the turns end
pub row_ends : (read : List ℕ → ItemValue × List ℕ) (n : ℕ) (items : List Item) (rest : List ℕ) (whole : ItemValues × List ℕ) → n ≡ 0 → whole ≡ before items (row_with read n rest) → (values_of items, []) ≡ whole
row_ends read n items rest whole e h =
    sym (h ∙ ap (λ k. before items (row_with read k rest)) e ∙ ap (before items) (row-none read rest) ∙ ap (λ x. (x, [])) (joined-none (map value_of items)))

-- where a list may open, its reader takes turns
pub row_reads : (d : ℕ) (bytes : List ℕ) → d ≢ 0 → row_with (read (d - 1)) (length bytes) bytes ≡ row_reader d bytes
row_reads zero bytes h = absurd (h refl)
row_reads (suc d) bytes h = let e : suc d - 1 ≡ d = omega arith in ap (λ k. row_with (read k) (length bytes) bytes) e
