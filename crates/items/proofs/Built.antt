-- From bytes that spell an item within the limits that very item is built.
use Rattle.std.proofs.Common.{◌≡◌, ℕ, zero, suc, ◌+◌, ◌-◌, ◌*◌, ◌≤◌, ◌<◌, min, List, [], ◌∷◌, ◌++◌, length, take, drop, true, false, ◌==◌, IsTrue, refl, sym}
use Rattle.std.proofs.Common.{ap, ap₂, ◌∙◌, subst, append_assoc, length-append, le_trans, le_of_eq, arith}
use Rattle.std.specs.Char.{is_ascii_digit, is_ascii_alphabetic}
use Rattle.items.specs.Word.{EachPasses, IsSpace, IsDigit, IsWord, is_space, is_word_byte}
use Rattle.items.specs.Values.{ItemValue, word, number, string, list, ItemValues, none, more, limits, IsWithin, AreWithin}
use Rattle.items.specs.Spelling.{value_behind, IsNumeral, Spaced, IsBody, AreSpelled}
use Rattle.items.specs.Build.{behind_spaces, word_len, numeral_at, behind_numeral, as_list, read_with, with_item, row_turn, row_with, read, row_reader}
use Rattle.items.proofs.Classes.{space-no_word, space-no_digit, space-no_colon, digit-no_space, digit-no_opening, digit-no_closing, letter-no_space}
use Rattle.items.proofs.Classes.{letter-no_opening, letter-no_closing, letter-no_digit, value-grows}

pub take-front : (xs ys : List ℕ) → take (length xs) (xs ++ ys) ≡ xs
take-front [] ys = refl
take-front (x ∷ xs) ys = ap (λ r. x ∷ r) (take-front xs ys)

drop-front_suc : (xs : List ℕ) (y : ℕ) (ys : List ℕ) → drop (suc (length xs)) (xs ++ (y ∷ ys)) ≡ ys
drop-front_suc [] y ys = refl
drop-front_suc (x ∷ xs) y ys = drop-front_suc xs y ys

pub drop-front : (xs : List ℕ) (y : ℕ) (ys : List ℕ) → drop (length xs + 1) (xs ++ (y ∷ ys)) ≡ ys
drop-front xs y ys = let e : length xs + 1 ≡ suc (length xs) = omega arith in ap (λ n. drop n (xs ++ (y ∷ ys))) e ∙ drop-front_suc xs y ys

pub read-is : (d : ℕ) (bytes : List ℕ) → read d bytes ≡ read_with (row_reader d) (behind_spaces bytes)
unfolding read
read-is zero bytes = refl
read-is (suc d) bytes = refl

spaces-behind : (gap bytes : List ℕ) → EachPasses IsSpace gap → behind_spaces (gap ++ bytes) ≡ behind_spaces bytes
unfolding behind_spaces
spaces-behind [] bytes h = refl
spaces-behind (b ∷ bs) bytes h = let e : is_space b ≡ true = h.0 in rw e (spaces-behind bs bytes h.1)

no_spaces : (b : ℕ) (bs : List ℕ) → is_space b ≡ false → behind_spaces (b ∷ bs) ≡ b ∷ bs
unfolding behind_spaces
no_spaces b bs h = rw h

letters-len : (w : List ℕ) (last : ℕ) (rest : List ℕ) → EachPasses (λ c. IsTrue (is_word_byte c)) w → IsSpace last → word_len (w ++ (last ∷ rest)) ≡ length w
unfolding word_len
letters-len [] last rest h s = rw (space-no_word last s)
letters-len (b ∷ bs) last rest h s = let e : is_word_byte b ≡ true = h.0 in rw e (ap suc (letters-len bs last rest h.1 s))

read-word : (row : List ℕ → ItemValues × List ℕ) (w : List ℕ) (last : ℕ) (rest : List ℕ) → IsWord w → IsSpace last → read_with row (w ++ (last ∷ rest)) ≡ (word w, rest)
unfolding read_with
read-word row [] last rest h s = absurd h
read-word row (b ∷ bs) last rest h s =
    let e : is_ascii_alphabetic b ≡ true = h.0 in
    let len : word_len (bs ++ (last ∷ rest)) ≡ length bs = letters-len bs last rest h.1 s in
    rw (letter-no_opening b e, letter-no_digit b e, e)
    (ap (λ n. (word (b ∷ take n (bs ++ (last ∷ rest))), drop (n + 1) (bs ++ (last ∷ rest)))) len
    ∙ ap₂ (λ x y. (word (b ∷ x), y)) (take-front bs (last ∷ rest)) (drop-front bs last rest))

small : (a b m : ℕ) → a + b ≤ m → min (min a m + b) m ≡ a + b
small a b m h = omega arith

numeral-is : (n : ℕ) (ds : List ℕ) (c : ℕ) (tail : List ℕ) → EachPasses IsDigit ds → is_ascii_digit c ≡ false → value_behind n ds ≤ 18446744073709551615 → numeral_at n (ds ++ (c ∷ tail)) ≡ (value_behind n ds, c ∷ tail)
unfolding numeral_at
numeral-is n [] c tail h s le = rw s
numeral-is n (b ∷ bs) c tail h s le =
    let e : is_ascii_digit b ≡ true = h.0 in
    let fits : 10 * n + (b - 48) ≤ 18446744073709551615 = le_trans (value-grows (10 * n + (b - 48)) bs) le in
    rw e (ap (λ k. numeral_at k (bs ++ (c ∷ tail))) (small (10 * n) (b - 48) 18446744073709551615 fits) ∙ numeral-is (10 * n + (b - 48)) bs c tail h.1 s le)

numeral-read : (ds : List ℕ) (n c : ℕ) (tail : List ℕ) → IsNumeral ds n → n ≤ 18446744073709551615 → is_ascii_digit c ≡ false → numeral_at 0 (ds ++ (c ∷ tail)) ≡ (n, c ∷ tail)
numeral-read [] n c tail h le s = absurd h
numeral-read (d ∷ ds) n c tail h le s =
    let zero_first : 10 * 0 + (d - 48) ≡ d - 48 = omega arith in
    let same : value_behind 0 (d ∷ ds) ≡ n = ap (λ k. value_behind k ds) zero_first ∙ h.2 in
    numeral-is 0 (d ∷ ds) c tail (h.0, h.1) s (le_trans (le_of_eq same) le) ∙ ap (λ k. (k, c ∷ tail)) same

read-digits : (row : List ℕ → ItemValues × List ℕ) (ds : List ℕ) (n c : ℕ) (tail : List ℕ) → IsNumeral ds n → n ≤ 18446744073709551615 → is_ascii_digit c ≡ false → read_with row (ds ++ (c ∷ tail)) ≡ behind_numeral n (c ∷ tail)
unfolding read_with
read-digits row [] n c tail h le s = absurd h
read-digits row (d ∷ ds) n c tail h le s =
    let e : is_ascii_digit d ≡ true = h.0 in
    rw (digit-no_opening d e, e) (ap (λ p. behind_numeral p.0 p.1) (numeral-read (d ∷ ds) n c tail h le s))

number-behind : (n last : ℕ) (rest : List ℕ) → IsSpace last → behind_numeral n (last ∷ rest) ≡ (number n, rest)
unfolding behind_numeral
number-behind n last rest s = rw (space-no_colon last s)

string-behind : (x : List ℕ) (last : ℕ) (rest : List ℕ) → behind_numeral (length x) (58 ∷ (x ++ (last ∷ rest))) ≡ (string x, rest)
unfolding behind_numeral
string-behind x last rest = ap₂ (λ a b. (string a, b)) (take-front x (last ∷ rest)) (drop-front x last rest)

read-opening : (row : List ℕ → ItemValues × List ℕ) (opening : ℕ) (bytes : List ℕ) → read_with row (40 ∷ opening ∷ bytes) ≡ as_list (row bytes)
unfolding read_with
read-opening row opening bytes = refl

-- a body begins with a byte that is no whitespace and ends no list
record Starts (body : List ℕ) : Type 0 where
  first : ℕ
  rest : List ℕ
  whole : body ≡ first ∷ rest
  no_space : is_space first ≡ false
  no_closing : (first == 41) ≡ false

numeral-starts : (ds : List ℕ) (n : ℕ) → IsNumeral ds n → Starts ds
numeral-starts [] n h = absurd h
numeral-starts (d ∷ ds) n h = record { first = d; rest = ds; whole = refl; no_space = digit-no_space d h.0; no_closing = digit-no_closing d h.0 }

word-starts : (w : List ℕ) → IsWord w → Starts w
word-starts [] h = absurd h
word-starts (b ∷ bs) h = record { first = b; rest = bs; whole = refl; no_space = letter-no_space b h.0; no_closing = letter-no_closing b h.0 }

body-starts : (t : ItemValue) (body : List ℕ) → IsBody t body → Starts body
body-starts (word w) body b = subst Starts (sym b.1) (word-starts w b.0)
body-starts (number n) body b = numeral-starts body n b
body-starts (string x) body b =
    let s = numeral-starts b.count (length x) b.numeral in
    record { first = s.first; rest = s.rest ++ (58 ∷ x); whole = b.whole ∙ ap (λ y. y ++ (58 ∷ x)) s.whole; no_space = s.no_space; no_closing = s.no_closing }
body-starts (list ts) body b = record { first = 40; rest = b.opening ∷ (b.inner ++ (b.gap ++ (41 ∷ []))); whole = b.whole; no_space = refl; no_closing = refl }

-- what is behind the spaces of an item
spaced-behind : (t : ItemValue) (bytes rest : List ℕ) (p : Spaced (λ body. IsBody t body) bytes) → behind_spaces (bytes ++ rest) ≡ p.body ++ (p.last ∷ rest)
spaced-behind t bytes rest p =
    let s : Starts p.body = body-starts t p.body p.middle in
    let split : bytes ++ rest ≡ p.gap ++ (p.body ++ (p.last ∷ rest)) = ap (λ x. x ++ rest) p.whole ∙ simp append_assoc in
    let starts : p.body ++ (p.last ∷ rest) ≡ s.first ∷ (s.rest ++ (p.last ∷ rest)) = ap (λ x. x ++ (p.last ∷ rest)) s.whole in
    ap behind_spaces split ∙ spaces-behind p.gap (p.body ++ (p.last ∷ rest)) p.spaces ∙ ap behind_spaces starts ∙ no_spaces s.first (s.rest ++ (p.last ∷ rest)) s.no_space ∙ sym starts

row-ends : (read : List ℕ → ItemValue × List ℕ) (n : ℕ) (gap : List ℕ) (last : ℕ) (rest : List ℕ) → EachPasses IsSpace gap → row_with read (suc n) (gap ++ (41 ∷ last ∷ rest)) ≡ (none, rest)
unfolding row_with
row-ends read n gap last rest h = ap (row_turn read (row_with read n)) (spaces-behind gap (41 ∷ last ∷ rest) h ∙ no_spaces 41 (last ∷ rest) refl)

turn-more : (read : List ℕ → ItemValue × List ℕ) (go : List ℕ → ItemValues × List ℕ) (b : ℕ) (bs : List ℕ) → (b == 41) ≡ false → row_turn read go (b ∷ bs) ≡ with_item (read (b ∷ bs)) go
turn-more read go b bs h = rw h

row-more : (read : List ℕ → ItemValue × List ℕ) (n : ℕ) (t : ItemValue) (front rest : List ℕ) (p : Spaced (λ body. IsBody t body) front) → read (p.body ++ (p.last ∷ rest)) ≡ (t, rest) → row_with read (suc n) (front ++ rest) ≡ with_item (t, rest) (row_with read n)
unfolding row_with
row-more read n t front rest p e =
    let s : Starts p.body = body-starts t p.body p.middle in
    let starts : p.body ++ (p.last ∷ rest) ≡ s.first ∷ (s.rest ++ (p.last ∷ rest)) = ap (λ x. x ++ (p.last ∷ rest)) s.whole in
    ap (row_turn read (row_with read n)) (spaced-behind t front rest p ∙ starts)
    ∙ turn-more read (row_with read n) s.first (s.rest ++ (p.last ∷ rest)) s.no_closing
    ∙ ap (λ x. with_item (read x) (row_with read n)) (sym starts)
    ∙ ap (λ x. with_item x (row_with read n)) e

abbrev unspaced : (t : ItemValue) (body : List ℕ) (last : ℕ) → IsBody t body → IsSpace last → Spaced (λ x. IsBody t x) (body ++ (last ∷ []))
unspaced t body last b s = record { gap = []; body = body; last = last; spaces = tt; middle = b; ends = s; whole = refl }

spaced-length : (Body : List ℕ → Type 0) (bytes : List ℕ) → Spaced Body bytes → 0 < length bytes
spaced-length Body bytes p =
    let e : length bytes ≡ length (p.gap ++ (p.body ++ (p.last ∷ []))) = ap length p.whole in
    omega (arith, e, length-append p.gap (p.body ++ (p.last ∷ [])), length-append p.body (p.last ∷ []))

-- so many lists are open, and so many more may be
mutual
  read-body : (o d : ℕ) (t : ItemValue) (body : List ℕ) (last : ℕ) (rest : List ℕ) → o + d ≡ 64 → IsBody t body → IsWithin limits o t → IsSpace last → read_with (row_reader d) (body ++ (last ∷ rest)) ≡ (t, rest)
  read-body o d (word w) body last rest e b h s = ap (λ x. read_with (row_reader d) (x ++ (last ∷ rest))) b.1 ∙ read-word (row_reader d) w last rest b.0 s
  read-body o d (number n) body last rest e b h s = read-digits (row_reader d) body n last rest b h (space-no_digit last s) ∙ number-behind n last rest s
  read-body o d (string x) body last rest e b h s =
      ap (λ y. read_with (row_reader d) (y ++ (last ∷ rest))) b.whole
      ∙ ap (read_with (row_reader d)) (append_assoc b.count (58 ∷ x) (last ∷ rest))
      ∙ read-digits (row_reader d) b.count (length x) 58 (x ++ (last ∷ rest)) b.numeral h.1 refl
      ∙ string-behind x last rest
  read-body o zero (list ts) body last rest e b h s = let never : ⊥ = omega (arith, h.0) in absurd never
  read-body o (suc d) (list ts) body last rest e b h s =
      let inside : List ℕ = b.inner ++ (b.gap ++ (41 ∷ last ∷ rest)) in
      let long : length b.inner < length inside = omega (arith, length-append b.inner (b.gap ++ (41 ∷ last ∷ rest)), length-append b.gap (41 ∷ last ∷ rest)) in
      ap (λ y. read_with (row_reader (suc d)) (y ++ (last ∷ rest))) b.whole
      ∙ ap (λ y. read_with (row_reader (suc d)) (40 ∷ b.opening ∷ y)) (simp append_assoc)
      ∙ read-opening (row_reader (suc d)) b.opening inside
      ∙ ap as_list (read-row (suc o) d ts (length inside) b.inner b.gap last rest (omega arith) b.middle h.1 b.spaces long)

  read-row : (o d : ℕ) (ts : ItemValues) (n : ℕ) (inner gap : List ℕ) (last : ℕ) (rest : List ℕ) → o + d ≡ 64 → AreSpelled ts inner → AreWithin limits o ts → EachPasses IsSpace gap → length inner < n
      → row_with (read d) n (inner ++ (gap ++ (41 ∷ last ∷ rest))) ≡ (ts, rest)
  read-row o d none zero inner gap last rest e p h s long = let never : ⊥ = omega arith in absurd never
  read-row o d none (suc n) inner gap last rest e p h s long =
      ap (λ x. row_with (read d) (suc n) (x ++ (gap ++ (41 ∷ last ∷ rest)))) p ∙ row-ends (read d) n gap last rest s
  read-row o d (more t ts) zero inner gap last rest e p h s long = let never : ⊥ = omega arith in absurd never
  read-row o d (more t ts) (suc n) inner gap last rest e p h s long =
      let tail : List ℕ = gap ++ (41 ∷ last ∷ rest) in
      let f : Spaced (λ body. IsBody t body) p.front = p.first in
      let short : length p.rest < n = omega (arith, spaced-length (λ body. IsBody t body) p.front f, ap length p.whole, length-append p.front p.rest) in
      let item : read d (f.body ++ (f.last ∷ (p.rest ++ tail))) ≡ (t, p.rest ++ tail) =
      read-is d (f.body ++ (f.last ∷ (p.rest ++ tail)))
      ∙ ap (λ x. read_with (row_reader d) (behind_spaces x)) (sym (append_assoc f.body (f.last ∷ []) (p.rest ++ tail)))
      ∙ ap (read_with (row_reader d)) (spaced-behind t (f.body ++ (f.last ∷ [])) (p.rest ++ tail) (unspaced t f.body f.last f.middle f.ends))
      ∙ read-body o d t f.body f.last (p.rest ++ tail) e f.middle h.0 f.ends in
      ap (λ x. row_with (read d) (suc n) (x ++ tail)) p.whole
      ∙ ap (row_with (read d) (suc n)) (append_assoc p.front p.rest tail)
      ∙ row-more (read d) n t p.front (p.rest ++ tail) f item
      ∙ ap (λ q. (more t q.0, q.1)) (read-row o d ts n p.rest gap last rest e p.others h.1 s short)

-- the item is read, and no further
pub read-item : (t : ItemValue) (bytes rest : List ℕ) → Spaced (λ body. IsBody t body) bytes → IsWithin limits 0 t → read 64 (bytes ++ rest) ≡ (t, rest)
read-item t bytes rest p h =
    read-is 64 (bytes ++ rest) ∙ ap (read_with (row_reader 64)) (spaced-behind t bytes rest p) ∙ read-body 0 64 t p.body p.last rest refl p.middle h p.ends
