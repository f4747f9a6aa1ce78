-- Groups of bytes that are compared at once.
use Rattle.std.proofs.Common.{◌≡◌, ℕ, zero, suc, ◌+◌, ◌-◌, ◌*◌, ◌%◌, ◌^◌, ◌≤◌, ◌↔◌, IsTrue, cond, Bool, true, false, List, [], ◌∷◌, ◌++◌, length, map, take}
use Rattle.std.proofs.{Common.{drop, reverse, get_or, refl, sym, ap, ◌∙◌, arith, eqb, eqb-true, w8, length-drop}, Math.Seq.{take-add, take-append_seam}}
use Rattle.std.proofs.lemmas.List.{drop-drop, length-reverse, length-take-le, reverse-append, reverse-reverse}
use Rattle.std.proofs.lemmas.Simd.{length-zip2, mask_l-mod, tops_compared}
use Rattle.std.specs.Simd.Lanes.{mask_l, top, zip2}
use borrow.Author.Tests.{eq-eqb}
use native.Mathlib.Nat.{two-pow-succ}
use Rattle.text_deltas.proofs.Alikes.{last_bytes}
use Rattle.text_deltas.specs.Alike.{alike}

-- the mask of a comparison has all its bits where all bytes are the same, and nowhere else
set_step : (x y m n : ℕ) (b : Bool) → eqb x y ≡ b → cond b 1 0 + 2 * m + 1 ≡ 2 * n → (x ≡ y) × (m + 1 ≡ n)
set_step x y m n true e h = (eqb-true x y e, omega (arith, h))
set_step x y m n false e h = absurd (omega (arith, h))

same_from_set : (xs ys : List ℕ) → length xs ≡ length ys → mask_l (zip2 eqb xs ys) + 1 ≡ 2 ^ length xs → xs ≡ ys
same_from_set [] [] l h = refl
same_from_set [] (y ∷ ys) l h = absurd (omega (arith, l))
same_from_set (x ∷ xs) [] l h = absurd (omega (arith, l))
same_from_set (x ∷ xs) (y ∷ ys) l h =
    let r = set_step x y (mask_l (zip2 eqb xs ys)) (2 ^ length xs) (eqb x y) refl
    (omega (arith, h, two-pow-succ (length xs))) in
    let rest = same_from_set xs ys (omega (arith, l)) r.1 in
    ap (λ z. z ∷ xs) r.0 ∙ ap (λ t. y ∷ t) rest

set_from_same : (xs : List ℕ) → mask_l (zip2 eqb xs xs) + 1 ≡ 2 ^ length xs
set_from_same [] = refl
set_from_same (x ∷ xs) = rw (eq-eqb x x refl) (omega (arith, set_from_same xs, two-pow-succ (length xs)))

pub mask_tells : (xs ys : List ℕ) → length xs ≡ 32 → length ys ≡ 32
    → IsTrue (eqb (mask_l (map (top 7) (zip2 (λ x y. cond (eqb x y) 255 0) xs ys)) % 2 ^ 64) 4294967295) ↔ (xs ≡ ys)
mask_tells xs ys h k =
    let mask = mask_l (zip2 eqb xs ys) in
    let is : mask_l (map (top 7) (zip2 (λ x y. cond (eqb x y) 255 0) xs ys)) % 2 ^ 64 ≡ mask =
    ap (λ bits. mask_l bits % 2 ^ 64) (tops_compared w8 eqb xs ys)
    ∙ mask_l-mod (zip2 eqb xs ys) 64 (omega (arith, length-zip2 eqb xs ys (h ∙ sym k), h)) in
    let last_is : xs ≡ ys → mask ≡ 4294967295 =
    λ same.
    let all = set_from_same xs in
    sym (ap (λ zs. mask_l (zip2 eqb xs zs)) same) ∙ omega (arith, all, ap (λ n. 2 ^ n) h) in
    rw is (
      λ t. same_from_set xs ys (h ∙ sym k) (rw h (omega (arith, eqb-true mask 4294967295 t))),
      λ same. rw (last_is same) refl,
    )

-- a group more
alike_group : (n : ℕ) (xs ys : List ℕ) → n ≤ length xs → n ≤ length ys → take n xs ≡ take n ys
    → alike xs ys ≡ n + alike (drop n xs) (drop n ys)
alike_group zero xs ys h k same = omega arith
alike_group (suc n) [] ys h k same = absurd (omega (arith, h))
alike_group (suc n) (x ∷ xs) [] h k same = absurd (omega (arith, k))
alike_group (suc n) (x ∷ xs) (y ∷ ys) h k same =
    let rest = alike_group n xs ys (omega (arith, h)) (omega (arith, k)) (ap (drop 1) same) in
    let first : alike (x ∷ xs) (y ∷ ys) ≡ suc (alike xs ys) = rw (eq-eqb x y (ap (λ t. get_or t 0 0) same)) refl in
    omega (arith, rest, first)

pub group_more : (xs ys : List ℕ) (i n all : ℕ) → i + n ≤ length xs → i + n ≤ length ys
    → take n (drop i xs) ≡ take n (drop i ys) → i + alike (drop i xs) (drop i ys) ≡ all
    → i + n + alike (drop (i + n) xs) (drop (i + n) ys) ≡ all
group_more xs ys i n all h k same whole =
    let group = alike_group n (drop i xs) (drop i ys)
    (omega (arith, length-drop i xs, h)) (omega (arith, length-drop i ys, k)) same in
    let rest : alike (drop n (drop i xs)) (drop n (drop i ys)) ≡ alike (drop (i + n) xs) (drop (i + n) ys) =
    rw (drop-drop n i xs, drop-drop n i ys) refl in
    omega (arith, group, rest, whole)

-- the same, from the ends
turned : (xs : List ℕ) (i n : ℕ) → i + n ≤ length xs
    → reverse (take n (drop (length xs - i - n) xs)) ≡ take n (drop i (reverse xs))
turned xs i n h =
    let back = reverse xs in
    let group = take n (drop i back) in
    let from : length xs - i - n ≡ length xs - (i + n) = omega arith in
    let end : drop (length xs - i - n) xs ≡ reverse group ++ reverse (take i back) =
    ap (λ k. drop k xs) from
    ∙ (last_bytes xs (i + n) h ∙ (ap reverse (take-add i n back) ∙ reverse-append (take i back) group)) in
    let fits : n ≤ length (drop i back) = omega (arith, length-drop i back, length-reverse xs, h) in
    let long : n ≡ length (reverse group) = sym (length-reverse group ∙ length-take-le n (drop i back) fits) in
    let first : take n (drop (length xs - i - n) xs) ≡ reverse group =
    ap (take n) end
    ∙ (ap (λ m. take m (reverse group ++ reverse (take i back))) long
    ∙ take-append_seam (reverse group) (reverse (take i back))) in
    ap reverse first ∙ reverse-reverse group

pub group_more_behind : (xs ys : List ℕ) (i n all : ℕ) → i + n ≤ length xs → i + n ≤ length ys
    → take n (drop (length xs - i - n) xs) ≡ take n (drop (length ys - i - n) ys)
    → i + alike (drop i (reverse xs)) (drop i (reverse ys)) ≡ all
    → i + n + alike (drop (i + n) (reverse xs)) (drop (i + n) (reverse ys)) ≡ all
group_more_behind xs ys i n all h k same whole =
    group_more (reverse xs) (reverse ys) i n all (rw length-reverse h) (rw length-reverse k)
    (sym (turned xs i n h) ∙ (ap reverse same ∙ turned ys i n k)) whole
