-- What an author has made.
use Rattle.std.proofs.Common.{◌≡◌, ℕ, ◌+◌, ◌<◌, ◌≤◌, ◌==◌, Bool, true, false, List, [], ◌∷◌, ◌++◌, length, refl, ap, sym, subst, ◌∙◌, arith, append-nil}
use Rattle.std.proofs.Common.{append_assoc}
use Rattle.std.specs.Prelude.{if◌then◌else◌}
use mathlib.Core.List.{IsPrefix}
use Rattle.repo_api.specs.Accepted.{Accepted}
use Rattle.published.specs.{Authors.GrowsBy, Events.{Event, own_in, count_in, moment_of}, Events.Event.{Opened, Makes, Fails}, Moments.{GoesOn, ListGoesOn}}
use Rattle.published.proofs.Histories.{own_more, count_more, longer_yet, same_number}

one_at_most : (b : Bool) (n m : ℕ) → n ≤ m → (if b then 1 else 0) + n ≤ m + 1
one_at_most true n m le = omega (arith, le)
one_at_most false n m le = omega (arith, le)

-- an author has no more events than there are
pub count_le : (n : ℕ) (log : List Event) → count_in n log ≤ length log
count_le n [] = omega arith
count_le n (Opened c m ∷ log) = let le = count_le n log in omega (arith, le)
count_le n (Makes by e ∷ log) = let le = one_at_most (by == n) (count_in n log) (length log) (count_le n log) in omega (arith, le)
count_le n (Fails by e halts m ∷ log) = let le = one_at_most (by == n) (count_in n log) (length log) (count_le n log) in omega (arith, le)

none_one : (b : Bool) (e : Accepted) (n : ℕ) (own : List Accepted) → (if b then 1 else 0) + n ≡ 0 → (n ≡ 0 → own ≡ []) → (if b then e ∷ own else own) ≡ []
none_one true e n own is none = absurd (omega (arith, is))
none_one false e n own is none = none (omega (arith, is))

rest_one : (b : Bool) (n : ℕ) → (if b then 1 else 0) + n ≡ 0 → n ≡ 0
rest_one true n is = absurd (omega (arith, is))
rest_one false n is = omega (arith, is)

-- an author that has no event has made no change
pub none_own : (n : ℕ) (log : List Event) → count_in n log ≡ 0 → own_in n log ≡ []
none_own n [] is = refl
none_own n (Opened c m ∷ log) is = none_own n log is
none_own n (Makes by e ∷ log) is = none_one (by == n) e (count_in n log) (own_in n log) is (none_own n log)
none_own n (Fails by e halts m ∷ log) is = none_own n log (rest_one (by == n) (count_in n log) is)

-- where no event is its own between, it has made no change there
pub own_same : (n : ℕ) (xs ys : List Event) → IsPrefix xs ys → count_in n ys ≡ count_in n xs → own_in n ys ≡ own_in n xs
own_same n xs ys p is =
    let whole : ys ≡ xs ++ p.0 = sym p.1 in
    let counts : count_in n xs + count_in n p.0 ≡ count_in n xs = sym (count_more n xs p.0) ∙ (ap (count_in n) p.1 ∙ is) in
    let none : count_in n p.0 ≡ 0 = omega (arith, counts) in
    ap (own_in n) whole ∙ (own_more n xs p.0 ∙ (ap (λ (es : List Accepted). own_in n xs ++ es) (none_own n p.0 none) ∙ append-nil (own_in n xs)))

pub prefix_through : {A : Type 0} (xs ys zs : List A) → IsPrefix xs ys → IsPrefix ys zs → IsPrefix xs zs
prefix_through xs ys zs p q = (p.0 ++ q.0, sym (append_assoc xs p.0 q.0) ∙ (ap (λ l. l ++ q.0) p.1 ∙ q.1))

-- an author is shown all that there is
pub meets : (n : ℕ) (told seen whole : List Event) → IsPrefix told seen → ListGoesOn seen whole → count_in n whole ≡ count_in n told
    → GoesOn (moment_of seen (own_in n told)) (moment_of whole (own_in n whole))
meets n told seen whole p l counts =
    subst (λ (own : List Accepted). GoesOn (moment_of seen (own_in n told)) (moment_of whole own))
    (sym (own_same n told whole (prefix_through told seen whole p l.begins) counts)) (l.goes_on (own_in n told))

-- one event more, which is an author's
pub grows_made : (n : ℕ) (xs : List Event) (e : Accepted) → 0 < length xs → GrowsBy n xs (xs ++ Makes n e ∷ [])
grows_made n xs e begun = record {
  begins = (Makes n e ∷ [], refl);
  begun = longer_yet xs (Makes n e ∷ []) begun;
  counted = λ m. let more = count_more m xs (Makes n e ∷ []) in omega (arith, more);
}

pub grows_failed : (n : ℕ) (xs : List Event) (e : Accepted) (halts : Bool) (count : ℕ) → 0 < length xs → GrowsBy n xs (xs ++ Fails n e halts count ∷ [])
grows_failed n xs e halts count begun = record {
  begins = (Fails n e halts count ∷ [], refl);
  begun = longer_yet xs (Fails n e halts count ∷ []) begun;
  counted = λ m. let more = count_more m xs (Fails n e halts count ∷ []) in omega (arith, more);
}

-- its author has one more
pub one_more : (n : ℕ) (xs ys : List Event) → GrowsBy n xs ys → count_in n ys ≡ count_in n xs + 1
one_more n xs ys grows = grows.counted n ∙ ap (λ (b : Bool). count_in n xs + (if b then 1 else 0)) (same_number n)
