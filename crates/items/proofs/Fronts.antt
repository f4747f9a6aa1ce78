-- What the builder reads at a byte.
use Rattle.std.proofs.Common.{◌≡◌, ◌≢◌, ℕ, zero, suc, ◌+◌, ◌-◌, ◌<◌, ◌⊎◌, min, List, [], ◌∷◌, length, get_or, take, drop, true, false, ◌==◌, cond, Bool, IsTrue}
use Rattle.std.proofs.{Common.{refl, sym, ap, ap₂, ◌∙◌, subst, append-nil, take_all, drop-drop, length-drop, arith}, lemmas.Bool.Decides.nat_tests}
use Rattle.std.specs.Char.{is_ascii_digit, is_ascii_alphabetic}
use Rattle.items.specs.{Word.{EachPasses, IsWord, is_word_byte}, Values.{ItemValue, word, number, string, list, ItemValues, limits}, Stream.IsItem}
use Rattle.items.specs.Build.{behind_spaces, word_len, numeral_at, behind_numeral, as_list, word_at, read_with, read, row_reader, StartsWord}
use Rattle.items.proofs.{Classes.{letter-no_opening, letter-no_digit}, Built.{read-is, read-item}}

pub all_dropped : (n : ℕ) (l : List ℕ) → take (length l - n) (drop n l) ≡ drop n l
all_dropped n l = take_all (length l - n) (drop n l) (omega (arith, length-drop n l))

at_first : (row : List ℕ → ItemValues × List ℕ) (d : ℕ) (bytes skipped : List ℕ) → skipped ≡ behind_spaces bytes → read_with (row_reader d) skipped ≡ read d bytes
at_first row d bytes skipped e = ap (read_with (row_reader d)) e ∙ sym (read-is d bytes)

with_nothing : (row : List ℕ → ItemValues × List ℕ) (skipped : List ℕ) → length skipped ≡ 0 → (number 0, skipped) ≡ read_with row skipped
unfolding read_with
with_nothing row [] h = refl
with_nothing row (b ∷ bs) h = let never : ⊥ = omega arith in absurd never

pub read_nothing : (d : ℕ) (bytes skipped : List ℕ) → skipped ≡ behind_spaces bytes → length skipped ≡ 0 → (number 0, skipped) ≡ read d bytes
read_nothing d bytes skipped e h = with_nothing (row_reader d) skipped h ∙ at_first (row_reader d) d bytes skipped e

with_list : (row : List ℕ → ItemValues × List ℕ) (skipped : List ℕ) → 0 < length skipped → get_or skipped 0 0 ≡ 40 → as_list (row (drop 1 (drop 1 skipped))) ≡ read_with row skipped
unfolding read_with
with_list row [] h e = let never : ⊥ = omega arith in absurd never
with_list row (b ∷ bs) h e = let opens : (b == 40) ≡ true = grind (arith, nat_tests) in rw opens

pub read_list : (d : ℕ) (bytes skipped : List ℕ) (ts : ItemValues) (behind : List ℕ) → skipped ≡ behind_spaces bytes → 0 < length skipped → get_or skipped 0 0 ≡ 40 → (ts, behind) ≡ row_reader d (drop 1 (drop 1 skipped)) → (list ts, behind) ≡ read d bytes
read_list d bytes skipped ts behind e h b r = ap as_list r ∙ with_list (row_reader d) skipped h b ∙ at_first (row_reader d) d bytes skipped e

with_number : (row : List ℕ → ItemValues × List ℕ) (skipped : List ℕ) → 0 < length skipped → get_or skipped 0 0 ≢ 40 → is_ascii_digit (get_or skipped 0 0) ≡ true
    → (let n = numeral_at 0 skipped in behind_numeral n.0 n.1) ≡ read_with row skipped
unfolding read_with
with_number row [] h o e = let never : ⊥ = omega arith in absurd never
with_number row (b ∷ bs) h o e =
    let shut : (b == 40) ≡ false = grind (arith, nat_tests) in
    let digit : is_ascii_digit b ≡ true = e in
    rw (shut, digit)

pub read_number : (d : ℕ) (bytes skipped : List ℕ) (p : ItemValue × List ℕ) → skipped ≡ behind_spaces bytes → 0 < length skipped → get_or skipped 0 0 ≢ 40 → is_ascii_digit (get_or skipped 0 0) ≡ true
    → p ≡ (let n = numeral_at 0 skipped in behind_numeral n.0 n.1) → p ≡ read d bytes
read_number d bytes skipped p e h o b r = r ∙ with_number (row_reader d) skipped h o b ∙ at_first (row_reader d) d bytes skipped e

with_word : (row : List ℕ → ItemValues × List ℕ) (b : ℕ) (bs : List ℕ) → is_ascii_alphabetic b ≡ true → word_at b bs ≡ read_with row (b ∷ bs)
unfolding read_with
with_word row b bs h = rw (letter-no_opening b h, letter-no_digit b h, h)

pub read_letters : (d : ℕ) (bytes skipped : List ℕ) (b : ℕ) (bs : List ℕ) (p : ItemValue × List ℕ) → skipped ≡ behind_spaces bytes → skipped ≡ b ∷ bs → is_ascii_alphabetic (get_or skipped 0 0) ≡ true → p ≡ word_at b bs → p ≡ read d bytes
read_letters d bytes skipped b bs p e s h r =
    let letter : is_ascii_alphabetic b ≡ true = ap (λ x. is_ascii_alphabetic (get_or x 0 0)) (sym s) ∙ h in
    r ∙ with_word (row_reader d) b bs letter ∙ ap (read_with (row_reader d)) (sym s) ∙ at_first (row_reader d) d bytes skipped e

with_other : (row : List ℕ → ItemValues × List ℕ) (skipped : List ℕ) → 0 < length skipped → get_or skipped 0 0 ≢ 40 → is_ascii_digit (get_or skipped 0 0) ≡ false → is_ascii_alphabetic (get_or skipped 0 0) ≡ false → (number 0, drop 1 skipped) ≡ read_with row skipped
unfolding read_with
with_other row [] h o n a = let never : ⊥ = omega arith in absurd never
with_other row (b ∷ bs) h o n a =
    let shut : (b == 40) ≡ false = grind (arith, nat_tests) in
    let digit : is_ascii_digit b ≡ false = n in
    let letter : is_ascii_alphabetic b ≡ false = a in
    rw (shut, digit, letter)

pub read_other : (d : ℕ) (bytes skipped : List ℕ) → skipped ≡ behind_spaces bytes → 0 < length skipped → get_or skipped 0 0 ≢ 40 → is_ascii_digit (get_or skipped 0 0) ≡ false → is_ascii_alphabetic (get_or skipped 0 0) ≡ false → (number 0, drop 1 skipped) ≡ read d bytes
read_other d bytes skipped e h o n a = with_other (row_reader d) skipped h o n a ∙ at_first (row_reader d) d bytes skipped e

-- behind digits
no_colon : (n : ℕ) (rest : List ℕ) → (length rest ≡ 0) ⊎ (get_or rest 0 0 ≢ 58) → (number n, drop 1 rest) ≡ behind_numeral n rest
unfolding behind_numeral
no_colon n [] h = refl
no_colon n (b ∷ bs) h = let shut : (b == 58) ≡ false = grind (arith, nat_tests) in rw shut

pub counted_number : (bytes : List ℕ) (n : ℕ) (rest : List ℕ) → (n, rest) ≡ numeral_at 0 bytes → (length rest ≡ 0) ⊎ (get_or rest 0 0 ≢ 58) → (number n, drop 1 rest) ≡ behind_numeral (numeral_at 0 bytes).0 (numeral_at 0 bytes).1
counted_number bytes n rest e h = no_colon n rest h ∙ ap (λ p. behind_numeral p.0 p.1) e

take_most : (n : ℕ) (l : List ℕ) → take (min n (length l)) l ≡ take n l
take_most zero l = let e : min 0 (length l) ≡ 0 = omega arith in ap (λ k. take k l) e
take_most (suc n) [] = let e : min (suc n) 0 ≡ 0 = omega arith in ap (λ k. take k []) e
take_most (suc n) (x ∷ xs) =
    let e : min (suc n) (suc (length xs)) ≡ suc (min n (length xs)) = omega arith in
    ap (λ k. take k (x ∷ xs)) e ∙ ap (λ r. x ∷ r) (take_most n xs)

drop_most : (n : ℕ) (l : List ℕ) → drop 1 (drop (min n (length l)) l) ≡ drop (n + 1) l
drop_most zero l = let e : min 0 (length l) ≡ 0 = omega arith in ap (λ k. drop 1 (drop k l)) e
drop_most (suc n) [] =
    let e : min (suc n) 0 ≡ 0 = omega arith in
    let f : suc n + 1 ≡ suc (n + 1) = omega arith in
    ap (λ k. drop 1 (drop k [])) e ∙ ap (λ k. drop k []) (sym f)
drop_most (suc n) (x ∷ xs) =
    let e : min (suc n) (suc (length xs)) ≡ suc (min n (length xs)) = omega arith in
    let f : suc n + 1 ≡ suc (n + 1) = omega arith in
    ap (λ k. drop 1 (drop k (x ∷ xs))) e ∙ drop_most n xs ∙ ap (λ k. drop k (x ∷ xs)) (sym f)

colon : (n : ℕ) (rest : List ℕ) → 0 < length rest → get_or rest 0 0 ≡ 58 → (string (take n (drop 1 rest)), drop (n + 1) (drop 1 rest)) ≡ behind_numeral n rest
unfolding behind_numeral
colon n [] h e = let never : ⊥ = omega arith in absurd never
colon n (b ∷ bs) h e = let opens : (b == 58) ≡ true = grind (arith, nat_tests) in rw opens

pub counted_string : (bytes : List ℕ) (n : ℕ) (rest text : List ℕ) (len : ℕ) → (n, rest) ≡ numeral_at 0 bytes → 0 < length rest → get_or rest 0 0 ≡ 58 → text ≡ drop 1 rest → len ≡ min n (length text)
    → (string (take len text), drop 1 (drop len text)) ≡ behind_numeral (numeral_at 0 bytes).0 (numeral_at 0 bytes).1
counted_string bytes n rest text len e h b t l =
    ap (λ k. (string (take k text), drop 1 (drop k text))) l
    ∙ ap₂ (λ x y. (string x, y)) (take_most n text) (drop_most n text)
    ∙ ap (λ x. (string (take n x), drop (n + 1) x)) t
    ∙ colon n rest h b
    ∙ ap (λ p. behind_numeral p.0 p.1) e

-- letters
letters : (bs : List ℕ) → EachPasses (λ c. IsTrue (is_word_byte c)) (take (word_len bs) bs)
unfolding word_len
letters [] = tt
letters (b ∷ bs) = go (letters bs) (is_word_byte b) refl
  where
    go : EachPasses (λ c. IsTrue (is_word_byte c)) (take (word_len bs) bs) → (v : Bool) → is_word_byte b ≡ v → EachPasses (λ c. IsTrue (is_word_byte c)) (take (cond v (suc (word_len bs)) 0) (b ∷ bs))
    go rest true e = (e, rest)
    go rest false e = tt

pub word_of : (bytes rest : List ℕ) (n : ℕ) → StartsWord bytes → rest ≡ drop 1 bytes → n ≡ word_len rest → IsWord (take (n + 1) bytes)
word_of [] rest n h t e = absurd h
word_of (b ∷ bs) rest n h t e =
    let one : n + 1 ≡ suc n = omega arith in
    let P : ℕ → Type 0 = λ k. IsWord (take k (b ∷ bs)) in
    let Q : ℕ → Type 0 = λ k. EachPasses (λ c. IsTrue (is_word_byte c)) (take k bs) in
    subst P (sym one) (h, subst Q (sym (e ∙ ap word_len t)) (letters bs))

pub word_read : (bytes rest items behind : List ℕ) (n : ℕ) → StartsWord bytes → rest ≡ drop 1 bytes → n ≡ word_len rest → items ≡ take (n + 1) bytes → behind ≡ drop 1 (drop n rest)
    → (b : ℕ) × (bs : List ℕ) × (bytes ≡ b ∷ bs) × ((word items, behind) ≡ word_at b bs)
word_read [] rest items behind n h t e i d = absurd h
word_read (b ∷ bs) rest items behind n h t e i d =
    let one : n + 1 ≡ suc n = omega arith in
    let len : n ≡ word_len bs = e ∙ ap word_len t in
    let front : items ≡ b ∷ take (word_len bs) bs = i ∙ ap (λ k. take k (b ∷ bs)) one ∙ ap (λ k. b ∷ take k bs) len in
    let back : behind ≡ drop (word_len bs + 1) bs = d ∙ ap (λ x. drop 1 (drop n x)) t ∙ drop-drop 1 n bs ∙ ap (λ k. drop (k + 1) bs) len in
    (b, bs, refl, ap₂ (λ x y. (word x, y)) front back)

-- the very item is built
pub built : (bytes : List ℕ) (t u : ItemValue) (behind : List ℕ) → IsItem limits t bytes → (u, behind) ≡ read 64 bytes → IsItem limits u bytes
built bytes t u behind i e =
    let same = sym (read-item t bytes [] i.spelled i.within) ∙ ap (read 64) (append-nil bytes) ∙ sym e in
    let is : t ≡ u = ap (λ p. p.0) same in
    let P : ItemValue → Type 0 = λ x. IsItem limits x bytes in
    subst P is i
