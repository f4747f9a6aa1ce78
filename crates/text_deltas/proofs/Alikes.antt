-- How many bytes two texts begin with, counted place by place.
use Rattle.std.proofs.Common.{◌≡◌, ◌≢◌, ℕ, suc, ◌+◌, ◌-◌, ◌≤◌, ◌<◌, ◌==◌, cond, Bool, true, false, List, [], ◌∷◌, ◌++◌, length, take, drop, reverse, get_or}
use Rattle.std.proofs.{Common.{refl, sym, ap, ◌∙◌, add-one, arith, drop-cons, length-drop, eqb-true}, Math.ListN.drop_of_length-le, Math.Seq.drop-append_seam}
use Rattle.std.proofs.lemmas.List.{get_or-reverse, length-reverse, reverse-append, reverse-reverse, take-append-drop}
use borrow.Author.Tests.{eq-eqb, ne_eqb}
use Rattle.text_deltas.specs.Alike.{alike}

none_right : (xs : List ℕ) → alike xs [] ≡ 0
none_right [] = refl
none_right (x ∷ xs) = refl

at_place : (xs ys : List ℕ) (i : ℕ) → i < length xs → i < length ys
    → alike (drop i xs) (drop i ys)
    ≡ cond (get_or xs i 0 == get_or ys i 0) (suc (alike (drop (i + 1) xs) (drop (i + 1) ys))) 0
at_place xs ys i h k = rw (add-one, drop-cons xs i 0 h, drop-cons ys i 0 k) refl

-- one more
pub alike_more : (xs ys : List ℕ) (i n : ℕ) → i < length xs → i < length ys
    → get_or xs i 0 ≡ get_or ys i 0 → i + alike (drop i xs) (drop i ys) ≡ n
    → i + 1 + alike (drop (i + 1) xs) (drop (i + 1) ys) ≡ n
alike_more xs ys i n h k same all =
    let e = rw (eq-eqb _ _ same) at (at_place xs ys i h k) in omega arith

-- no more, since these differ, or one of the texts ends
pub alike_differ : (xs ys : List ℕ) (i n : ℕ) → i < length xs → i < length ys
    → get_or xs i 0 ≢ get_or ys i 0 → i + alike (drop i xs) (drop i ys) ≡ n → i ≡ n
alike_differ xs ys i n h k differ all =
    let e = rw (ne_eqb _ _ differ) at (at_place xs ys i h k) in omega arith

pub alike_end_right : (xs ys : List ℕ) (i n : ℕ) → length ys ≤ i → i + alike (drop i xs) (drop i ys) ≡ n → i ≡ n
alike_end_right xs ys i n h all =
    let e : alike (drop i xs) (drop i ys) ≡ 0 = rw (drop_of_length-le ys h) (none_right (drop i xs)) in omega arith

-- the same, from the ends
pub behind_more : (xs ys : List ℕ) (i n : ℕ) → i < length xs → i < length ys
    → get_or xs (length xs - 1 - i) 0 ≡ get_or ys (length ys - 1 - i) 0
    → i + alike (drop i (reverse xs)) (drop i (reverse ys)) ≡ n
    → i + 1 + alike (drop (i + 1) (reverse xs)) (drop (i + 1) (reverse ys)) ≡ n
behind_more xs ys i n h k same all =
    alike_more (reverse xs) (reverse ys) i n (rw length-reverse h) (rw length-reverse k)
    (get_or-reverse xs i 0 h ∙ (same ∙ sym (get_or-reverse ys i 0 k))) all

pub behind_differ : (xs ys : List ℕ) (i n : ℕ) → i < length xs → i < length ys
    → get_or xs (length xs - 1 - i) 0 ≢ get_or ys (length ys - 1 - i) 0
    → i + alike (drop i (reverse xs)) (drop i (reverse ys)) ≡ n → i ≡ n
behind_differ xs ys i n h k differ all =
    alike_differ (reverse xs) (reverse ys) i n (rw length-reverse h) (rw length-reverse k)
    (λ e. differ (sym (get_or-reverse xs i 0 h) ∙ (e ∙ get_or-reverse ys i 0 k))) all

pub behind_end_right : (xs ys : List ℕ) (i n : ℕ) → length ys ≤ i
    → i + alike (drop i (reverse xs)) (drop i (reverse ys)) ≡ n → i ≡ n
behind_end_right xs ys i n h all = alike_end_right (reverse xs) (reverse ys) i n (rw length-reverse h) all

-- no more bytes than a text has
pub alike_fits : (xs ys : List ℕ) → (alike xs ys ≤ length xs) × (alike xs ys ≤ length ys)
alike_fits [] ys = (omega arith, omega arith)
alike_fits (x ∷ xs) [] = (omega arith, omega arith)
alike_fits (x ∷ xs) (y ∷ ys) =
    elim (x == y) as (λ b. (cond b (suc (alike xs ys)) 0 ≤ suc (length xs)) × (cond b (suc (alike xs ys)) 0 ≤ suc (length ys))) [
      | true ↦ let r = alike_fits xs ys in (omega (arith, r.0), omega (arith, r.1))
      | false ↦ (omega arith, omega arith)
    ]

-- so many bytes are the same in both
more_front : (x y : ℕ) (xs ys : List ℕ) (b : Bool) → (x == y) ≡ b → take (alike xs ys) xs ≡ take (alike xs ys) ys
    → take (cond b (suc (alike xs ys)) 0) (x ∷ xs) ≡ take (cond b (suc (alike xs ys)) 0) (y ∷ ys)
more_front x y xs ys true e h = ap (λ z. z ∷ take (alike xs ys) xs) (eqb-true x y e) ∙ ap (λ t. y ∷ t) h
more_front x y xs ys false e h = refl

pub same_front : (xs ys : List ℕ) → take (alike xs ys) xs ≡ take (alike xs ys) ys
same_front [] [] = refl
same_front [] (y ∷ ys) = refl
same_front (x ∷ xs) [] = refl
same_front (x ∷ xs) (y ∷ ys) = more_front x y xs ys (x == y) refl (same_front xs ys)

-- the last bytes, first in the text read backwards
pub last_bytes : (xs : List ℕ) (k : ℕ) → k ≤ length xs → drop (length xs - k) xs ≡ reverse (take k (reverse xs))
last_bytes xs k h =
    let back = reverse (drop k (reverse xs)) in
    let end = reverse (take k (reverse xs)) in
    let whole : back ++ end ≡ xs =
    sym (reverse-append (take k (reverse xs)) (drop k (reverse xs)))
    ∙ (ap reverse (take-append-drop k (reverse xs)) ∙ reverse-reverse xs) in
    let long : length xs - k ≡ length back =
    sym (length-reverse (drop k (reverse xs)) ∙ (length-drop k (reverse xs) ∙ ap (λ n. n - k) (length-reverse xs))) in
    ap (drop (length xs - k)) (sym whole) ∙ (ap (λ n. drop n (back ++ end)) long ∙ drop-append_seam back end)

pub same_behind : (xs ys : List ℕ)
    → drop (length xs - alike (reverse xs) (reverse ys)) xs ≡ drop (length ys - alike (reverse xs) (reverse ys)) ys
same_behind xs ys =
    let n = alike (reverse xs) (reverse ys) in
    let fits = alike_fits (reverse xs) (reverse ys) in
    let a : n ≤ length xs = rw (length-reverse xs) at fits.0 in
    let b : n ≤ length ys = rw (length-reverse ys) at fits.1 in
    last_bytes xs n a ∙ (ap reverse (same_front (reverse xs) (reverse ys)) ∙ sym (last_bytes ys n b))
