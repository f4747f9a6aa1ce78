-- What is copied is within both texts, and is the same in both.
use Rattle.std.proofs.Common.{◌≡◌, ℕ, ◌+◌, ◌-◌, ◌*◌, ◌≤◌, ◌<◌, ◌^◌, ◌&&◌, cond, Bool, true, false, true≢false, nat_lt, nat_le, List, length, take, drop}
use Rattle.std.proofs.{Common.{reverse, min, refl, sym, ap, ◌∙◌, arith, length-drop}, lemmas.List.{length-reverse, take_min, take_rest, drop-drop}}
use Rattle.std.proofs.lemmas.Bool.{leb-true}
use Rattle.text_deltas.specs.{Alike.{alike, is_near, alike_behind, if_worth, shared_by}, Bounds.IsBounded, Deltas.{window, nth_window}}
use Rattle.text_deltas.specs.declared.shared.Shared.{Shared}
use Rattle.text_deltas.proofs.Alikes.{alike_fits, same_front, same_behind}

-- with the bytes at the front, both texts have so many
behind_fits : (front : ℕ) (before text : List ℕ) → front ≤ length before → front ≤ length text
    → (front + alike_behind front before text ≤ length before) × (front + alike_behind front before text ≤ length text)
behind_fits front before text h k =
    let end = alike (reverse (drop front before)) (reverse (drop front text)) in
    let fits = alike_fits (reverse (drop front before)) (reverse (drop front text)) in
    let b : end ≤ length before - front = rw (length-reverse (drop front before), length-drop front before) at fits.0 in
    let t : end ≤ length text - front = rw (length-reverse (drop front text), length-drop front text) at fits.1 in
    elim (is_near (length before) (length text)) as (λ n. (front + cond n end 0 ≤ length before) × (front + cond n end 0 ≤ length text)) [
      | true ↦ (omega arith, omega arith)
      | false ↦ (omega arith, omega arith)
    ]

worth_bounded : (s : Shared) → IsBounded s → IsBounded (if_worth s)
worth_bounded s h =
    elim (nat_lt (s.front + s.back) 64) as (λ b. IsBounded (cond b (record { before = 0; text = s.text; front = 0; back = 0 }) s)) [
      | true ↦ record { before = omega arith; text = h.text; within_before = omega arith; within_text = omega arith }
      | false ↦ h
    ]

pub shared_bounded : (before text : List ℕ) → length before < 2 ^ 63 → length text < 2 ^ 63 → IsBounded (shared_by before text)
shared_bounded before text h k =
    let front = alike_fits before text in
    let both = behind_fits (alike before text) before text front.0 front.1 in
    worth_bounded _ (record { before = h; text = k; within_before = both.0; within_text = both.1 })

-- What is copied is in both texts: so many bytes at the front, and so many at the end, where the
-- lengths are near to one another.
pub record IsSharing (before text : List ℕ) (s : Shared) : Type 0 where
  pub text_len : s.text ≡ length text
  pub before_len : s.before ≤ length before
  pub within_before : s.front + s.back ≤ s.before
  pub within_text : s.front + s.back ≤ s.text
  pub front : take s.front before ≡ take s.front text
  pub back : 0 < s.back → drop (s.before - s.back) before ≡ drop (s.text - s.back) text
  pub near_before : 0 < s.back → s.before ≤ s.text + 17000
  pub near_text : 0 < s.back → s.text ≤ s.before + 17000

worth_sharing : (before text : List ℕ) (s : Shared) → IsSharing before text s → IsSharing before text (if_worth s)
worth_sharing before text s h =
    elim (nat_lt (s.front + s.back) 64) as (λ b. IsSharing before text (cond b (record { before = 0; text = s.text; front = 0; back = 0 }) s)) [
      | true ↦ record {
        text_len = h.text_len;
        before_len = omega arith;
        within_before = omega arith;
        within_text = omega arith;
        front = refl;
        back = λ p. absurd (omega arith);
        near_before = λ p. absurd (omega arith);
        near_text = λ p. absurd (omega arith);
      }
      | false ↦ h
    ]

near_by : (a b c d : ℕ) (t : Bool) → nat_le a b ≡ t → (t && nat_le c d) ≡ true → (a ≤ b) × (c ≤ d)
near_by a b c d true e h = (leb-true a b e, leb-true c d h)
near_by a b c d false e h = absurd (true≢false (sym h))

near_both : (a b c d : ℕ) → (nat_le a b && nat_le c d) ≡ true → (a ≤ b) × (c ≤ d)
near_both a b c d e = near_by a b c d (nat_le a b) refl e

end_is : (front : ℕ) (xs : List ℕ) (back : ℕ) → front + back ≤ length xs
    → drop (length xs - back) xs ≡ drop (length (drop front xs) - back) (drop front xs)
end_is front xs back h =
    let n : length xs - back ≡ front + (length (drop front xs) - back) = omega (arith, length-drop front xs) in
    ap (λ k. drop k xs) n ∙ sym (drop-drop (length (drop front xs) - back) front xs)

-- the ends, without so many bytes at the front
ends_same : (front : ℕ) (before text : List ℕ) (b : Bool) → is_near (length before) (length text) ≡ b
    → front ≤ length before → front ≤ length text
    → 0 < cond b (alike (reverse (drop front before)) (reverse (drop front text))) 0
    → let back = cond b (alike (reverse (drop front before)) (reverse (drop front text))) 0 in
    (drop (length before - back) before ≡ drop (length text - back) text) × (length before ≤ length text + 17000) × (length text ≤ length before + 17000)
ends_same front before text true e h k p =
    let back = alike (reverse (drop front before)) (reverse (drop front text)) in
    let fits = behind_fits front before text h k in
    let near = near_both _ _ _ _ e in
    let fits_before : front + back ≤ length before = rw e at fits.0 in
    let fits_text : front + back ≤ length text = rw e at fits.1 in
    (end_is front before back fits_before ∙ (same_behind (drop front before) (drop front text) ∙ sym (end_is front text back fits_text)), near.0, near.1)
ends_same front before text false e h k p = absurd (omega arith)

pub shares : (before text : List ℕ) → IsSharing before text (shared_by before text)
shares before text =
    let front = alike before text in
    let fits = alike_fits before text in
    let both = behind_fits front before text fits.0 fits.1 in
    let ends = ends_same front before text (is_near (length before) (length text)) refl fits.0 fits.1 in
    worth_sharing before text _ (record {
      text_len = refl;
      before_len = omega arith;
      within_before = both.0;
      within_text = both.1;
      front = same_front before text;
      back = λ p. (ends p).0;
      near_before = λ p. (ends p).1;
      near_text = λ p. (ends p).2;
    })

-- the part of the text that a window gives
part_is : (text : List ℕ) (at n : ℕ) → n ≡ min (length (take (length text - at) (drop at text))) 65536
    → take n (take (length text - at) (drop at text)) ≡ take 65536 (drop at text)
part_is text at n e =
    let rest = drop at text in
    let r : take (length text - at) rest ≡ rest = take_rest text at in
    let m : n ≡ min 65536 (length rest) = rw r at e ∙ omega arith in
    ap (take n) r ∙ (ap (λ k. take k rest) m ∙ take_min 65536 rest)

pub window_is : (s : Shared) (before text : List ℕ) (k n : ℕ) → s ≡ shared_by before text
    → n ≡ min (length (take (length text - k * 65536) (drop (k * 65536) text))) 65536
    → window s (k * 65536) (take n (take (length text - k * 65536) (drop (k * 65536) text))) ≡ nth_window before text k
window_is s before text k n e m =
    let at = k * 65536 in
    ap (λ s. window s at (take n (take (length text - at) (drop at text)))) e
    ∙ ap (window (shared_by before text) at) (part_is text at n m)
