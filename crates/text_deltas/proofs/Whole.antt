-- Where nothing is copied, a window is that of a whole text.
use Rattle.std.proofs.Common.{◌≡◌, ℕ, ◌+◌, ◌-◌, ◌*◌, ◌/◌, ◌%◌, ◌^◌, ◌≤◌, ◌<◌, min, cond, Bool, true, false, nat_lt, List, [], ◌∷◌, ◌++◌, map, length, take}
use Rattle.std.proofs.{Common.{drop, refl, sym, ap, ◌∙◌, arith, append_assoc, append-nil, length-take, length-drop, lit≤, lit<}, lemmas.Bool.Decides.nat_tests}
use Rattle.std.proofs.{Math.Seq.take-length, lemmas.Grind.div_ceil_times, lemmas.Int.Digits.digits_of_step}
use Rattle.std.specs.{Int.div_ceil, Int.Digits.digits_of}
use borrow.Author.Tests.{ltb-true, lt-ltb}
use Rattle.svndiff0.specs.Full.{integer_of, new_data_of, full_window}
use Rattle.text_deltas.specs.{Alike.{alike, alike_behind, shared_by}, Deltas.{parts_of, integer, sized, copy, new_data, instructions, head, window, nth_window}}
use Rattle.text_deltas.specs.{declared.shared.Shared.Shared, declared.windows.Parts.Parts}
use Rattle.text_deltas.proofs.Written.{some_new, new_short}

-- one digit
digit : (n : ℕ) → 0 < n → n < 128 → digits_of 128 n ≡ n ∷ []
digit n p h =
    let a : n / 128 ≡ 0 = omega arith in
    let b : n % 128 ≡ n = omega arith in
    digits_of_step 128 n (lit≤ tt) p ∙ rw (a, b) refl

two_digits : (n : ℕ) → 128 ≤ n → n < 16384 → digits_of 128 n ≡ (n / 128) ∷ (n % 128) ∷ []
two_digits n p h =
    digits_of_step 128 n (lit≤ tt) (omega arith) ∙ ap (λ t. t ++ n % 128 ∷ []) (digit (n / 128) (omega arith) (omega arith))

by_long : (n : ℕ) (b : Bool) → nat_lt n 16384 ≡ b → 128 ≤ n → n < 2 ^ 21
    → map (λ d. 128 + d) (digits_of 128 (n / 128)) ++ n % 128 ∷ []
    ≡ cond b ((128 + n / 128) ∷ (n % 128) ∷ []) ((128 + n / 16384) ∷ (128 + n / 128 % 128) ∷ (n % 128) ∷ [])
by_long n true e p h =
    let k : n < 16384 = ltb-true n 16384 e in
    ap (λ ds. map (λ d. 128 + d) ds ++ n % 128 ∷ []) (digit (n / 128) (omega arith) (omega arith))
by_long n false e p h =
    let k : 16384 ≤ n = grind (arith, nat_tests) in
    let q : n / 128 / 128 ≡ n / 16384 = omega arith in
    ap (λ ds. map (λ d. 128 + d) ds ++ n % 128 ∷ []) (two_digits (n / 128) (omega arith) (omega arith))
    ∙ ap (λ m. (128 + m) ∷ (128 + n / 128 % 128) ∷ (n % 128) ∷ []) q

by_short : (n : ℕ) (b : Bool) → nat_lt n 128 ≡ b → n < 2 ^ 21
    → map (λ d. 128 + d) (digits_of 128 (n / 128)) ++ n % 128 ∷ []
    ≡ cond b (n ∷ []) (cond (nat_lt n 16384) ((128 + n / 128) ∷ (n % 128) ∷ []) ((128 + n / 16384) ∷ (128 + n / 128 % 128) ∷ (n % 128) ∷ []))
by_short n true e h =
    let k : n < 128 = ltb-true n 128 e in
    let a : n / 128 ≡ 0 = omega arith in
    let b : n % 128 ≡ n = omega arith in
    rw (a, b) refl
by_short n false e h =
    let k : 128 ≤ n = grind (arith, nat_tests) in
    by_long n (nat_lt n 16384) refl k h

same_integer : (n : ℕ) → n < 2 ^ 21 → integer n ≡ integer_of n
unfolding integer integer_of
same_integer n h = by_short n (nat_lt n 128) refl h

zero_integer : integer 0 ≡ 0 ∷ []
unfolding integer
zero_integer = refl

same_new : (n : ℕ) → 0 < n → n < 2 ^ 21 → new_data n ≡ new_data_of n
unfolding sized new_data_of
same_new n p h = some_new n p ∙ ap (λ t. cond (nat_lt n 64) ((128 + n) ∷ []) (128 ∷ t)) (same_integer n h)

no_copy : (from : ℕ) → copy from 0 ≡ []
unfolding copy
no_copy from = refl

-- the instructions, where all bytes are new
new_alone : (p : Parts) (n : ℕ) → p.front ≡ 0 → p.back ≡ 0 → p.fresh ≡ n → 0 < n → n < 2 ^ 21 → instructions p ≡ new_data_of n
unfolding instructions
new_alone p n f b e h k =
    rw (f, b, e, no_copy p.front_from, no_copy p.back_from, append-nil (new_data n)) (same_new n h k)

window_alone : (p : Parts) (part : List ℕ) → p.start ≡ 0 → p.view ≡ 0 → p.front ≡ 0 → p.back ≡ 0 → p.fresh ≡ length part
    → 0 < length part → length part < 2 ^ 21
    → head p (length part) (length (instructions p)) ++ (instructions p ++ take p.fresh (drop p.front part)) ≡ full_window part
unfolding head full_window
window_alone p part s v f b e h k =
    let n = length part in
    let code = new_data_of n in
    let short : length code < 2 ^ 21 = omega (arith, ap length (same_new n h k), new_short n (omega arith)) in
    let size = integer_of n in
    let count = integer_of (length code) in
    let grouped : (size ++ (count ++ size)) ++ (code ++ part) ≡ size ++ (count ++ (size ++ (code ++ part))) =
    append_assoc size (count ++ size) (code ++ part) ∙ ap (λ t. size ++ t) (append_assoc count size (code ++ part)) in
    rw (new_alone p n f b e h k, s, v, f, e, zero_integer, same_integer n k, same_integer (length code) short, take-length part)
    (ap (λ t. 0 ∷ 0 ∷ t) grouped)

-- nothing is copied
pub nothing_copied : (before text : List ℕ) → alike before text + alike_behind (alike before text) before text < 64
    → shared_by before text ≡ record { before = 0; text = length text; front = 0; back = 0 }
nothing_copied before text h =
    let front = alike before text in
    let back = alike_behind front before text in
    let t : nat_lt (front + back) 64 ≡ true = lt-ltb (front + back) 64 h in
    ap (λ b. cond b (record { before = 0; text = length text; front = 0; back = 0 })
    (record { before = length before; text = length text; front = front; back = back })) t

window_whole : (text part : List ℕ) (at : ℕ) → at + length part ≤ length text → 0 < length part → length part < 2 ^ 21
    → window (record { before = 0; text = length text; front = 0; back = 0 }) at part ≡ full_window part
unfolding window
window_whole text part at w h k =
    let s : Shared = record { before = 0; text = length text; front = 0; back = 0 } in
    window_alone (parts_of s at (length part)) part (omega arith) (omega arith) (omega arith) (omega arith) (omega arith) h k

pub goes_whole : (before text : List ℕ) (place : ℕ) → alike before text + alike_behind (alike before text) before text < 64
    → place < div_ceil (length text) 65536
    → nth_window before text place ≡ full_window (take 65536 (drop (place * 65536) text))
goes_whole before text place h k =
    let at = place * 65536 in
    let part = take 65536 (drop at text) in
    let d = div_ceil_times (length text) 65536 (lit< tt) in
    let long : length part ≡ min 65536 (length text - at) = omega (arith, length-take 65536 (drop at text), length-drop at text) in
    let some : at < length text = omega (arith, d.0, d.1) in
    ap (λ s. window s at part) (nothing_copied before text h)
    ∙ window_whole text part at (omega arith) (omega arith) (omega arith)
