-- The steps that take a turn and that add an event in it keep the rule.
use Rattle.std.proofs.Common.{◌≡◌, ℕ, zero, suc, ◌+◌, ◌<◌, ◌≤◌, ◌==◌, Bool, true, false, true≢false, List, [], ◌∷◌, ◌++◌, length, refl, ap, sym, subst, ◌∙◌}
use Rattle.std.proofs.{Common.{arith, inl, inr, ⊎_elim, length-append, None, append_assoc}, lemmas.List.append-nil, lemmas.Bool.Decides.nat_tests}
use Rattle.std.specs.Prelude.{replicate, slice_set}
use mathlib.Core.List.{IsPrefix}
use prog.Atomic.{either}
use Rattle.logbook.specs.Pages.{Cell, cell, adds, gives, keeps, may_make, nib, no_nib, step, Moves, Goes}
use Rattle.published.specs.{Events.{Event, MayFollow, IsHistory, MayAllFollow}, Rules.{IsKept, Adds, Takes, all_home, one_out, place_after, turn_after}}
use Rattle.published.proofs.Fronts.{prefix_whole}

abbrev pub shown : List Event → List Event
shown log = []

abbrev pub moved : List Event → List Event → ℕ → Type 0
moved xs ys n = Unit {0}

pub follow_after : (done log : List Event) (e : Event) → MayAllFollow done log → MayFollow (done ++ log) e → MayAllFollow done (log ++ e ∷ [])
follow_after done [] e a may = (subst (λ l. MayFollow l e) (append-nil done) may, tt)
follow_after done (x ∷ log) e a may = (a.0, follow_after (done ++ x ∷ []) log e a.1 (subst (λ l. MayFollow l e) (sym (append_assoc done (x ∷ []) log)) may))

prefix_length : {A : Type 0} (xs ys : List A) → IsPrefix xs ys → length xs ≤ length ys
prefix_length xs ys p = let l = ap length p.1 in omega (arith, l, length-append xs p.0)

-- ---- the words of turns

abbrev homes : ℕ → List Cell
homes n = replicate n (0, true)

abbrev homes_out : ℕ → List Cell
homes_out n = homes n ++ (0, false) ∷ []

many : (n : ℕ) → length (homes n) ≡ n
many zero = refl
many (suc n) = ap suc (many n)

-- all of them are home
none_is_out : (n k : ℕ) → k < length (homes n) → (cell (homes n) k).1 ≡ false → ⊥
none_is_out zero k less is = omega (arith, less)
none_is_out (suc n) zero less is = true≢false is
none_is_out (suc n) (suc k) less is = none_is_out n k (omega (arith, less)) is

-- only the last is out
last_is_out : (n k : ℕ) → k < length (homes_out n) → (cell (homes_out n) k).1 ≡ false → k ≡ n
last_is_out zero zero less is = refl
last_is_out zero (suc k) less is = absurd (omega (arith, less))
last_is_out (suc n) zero less is = absurd (true≢false is)
last_is_out (suc n) (suc k) less is = ap suc (last_is_out n k (omega (arith, less)) is)

abbrev at_home : List Cell → ℕ → List Cell
at_home cs k = slice_set cs k (0, true)

-- which comes home
comes_home : (n : ℕ) → at_home (homes_out n) n ≡ homes (suc n)
comes_home zero = refl
comes_home (suc n) = ap (λ (cs : List Cell). (0, true) ∷ cs) (comes_home n)

-- ---- the turn is taken

takes_home : (log v : List Event) (e : Event) (old : ℕ) → length v ≡ old → IsHistory log → IsPrefix v log → (b : Bool) → (length log == old) ≡ b
    → Goes IsKept shown moved 0 (v, (no_nib, None)) (λ n. either (n == old) (old + 1) n) (Takes (step 0 old (old + 1) e) (v, (no_nib, None))) (all_home (length log)) log
takes_home log v e old len legal pre true is =
    let here : length log ≡ old = grind (arith, nat_tests) in
    let all : log ++ [] ≡ log = append-nil log in
    let same : v ≡ log = prefix_whole v log pre (omega (arith, here, len)) in
    let n : either (length log == old) (old + 1) (length log) ≡ suc (length (log ++ [])) = rw is (omega (arith, here) ∙ ap (λ (l : List Event). suc (length l)) (sym all)) in
    let m : length log ≡ length (log ++ []) = ap length (sym all) in
    let key : length (all_home (length log)) ≡ place_after old = ap (λ k. suc k) (many (suc (length log))) ∙ ap (λ k. suc (suc k)) here in (
      adds,
      [],
      None,
      tt,
      record { words = inr (λ i. (n i, true) ∷ homes_out (suc (m i))); history = subst IsHistory (sym all) legal },
      inl (refl, refl),
      rw is (all ∙ sym same, λ i. nib may_make (key i) 0),
    )
takes_home log v e old len legal pre false is =
    let all : log ++ [] ≡ log = append-nil log in
    let n : either (length log == old) (old + 1) (length log) ≡ length (log ++ []) = rw is (ap length (sym all)) in
    let m : length log ≡ length (log ++ []) = ap length (sym all) in (
      keeps,
      [],
      None,
      tt,
      record { words = inl (λ i. (n i, true) ∷ homes (suc (m i))); history = subst IsHistory (sym all) legal },
      inl (refl, refl),
      rw is tt,
    )

takes_out : (log v : List Event) (e : Event) (old : ℕ) → length v ≡ old → IsHistory log → IsPrefix v log → (b : Bool) → (suc (length log) == old) ≡ b
    → Goes IsKept shown moved 0 (v, (no_nib, None)) (λ n. either (n == old) (old + 1) n) (Takes (step 0 old (old + 1) e) (v, (no_nib, None))) (one_out (length log)) log
takes_out log v e old len legal pre true is =
    let less = prefix_length v log pre in
    let here : suc (length log) ≡ old = grind (arith, nat_tests) in
    absurd (omega (arith, less, here, len))
takes_out log v e old len legal pre false is =
    let all : log ++ [] ≡ log = append-nil log in
    let n : either (suc (length log) == old) (old + 1) (suc (length log)) ≡ suc (length (log ++ [])) = rw is (ap (λ (l : List Event). suc (length l)) (sym all)) in
    let m : length log ≡ length (log ++ []) = ap length (sym all) in (
      keeps,
      [],
      None,
      tt,
      record { words = inr (λ i. (n i, true) ∷ homes_out (suc (m i))); history = subst IsHistory (sym all) legal },
      inl (refl, refl),
      rw is tt,
    )

-- whatever the book is, the exchange takes the turn to add an event to all that was seen, or finds that it cannot
pub takes_moves : (v : List Event) (e : Event) (old : ℕ) → length v ≡ old
    → Moves IsKept shown moved 0 (v, (no_nib, None)) (λ n. either (n == old) (old + 1) n) (Takes (step 0 old (old + 1) e) (v, (no_nib, None)))
takes_moves v e old len cs log kept pre away =
    let P : List Cell → Type 0 = λ c. (0 < length c) × ((cell c 0).1 ≡ true) × Goes IsKept shown moved 0 (v, (no_nib, None)) (λ n. either (n == old) (old + 1) n) (Takes (step 0 old (old + 1) e) (v, (no_nib, None))) c log in
    ⊎_elim
    (λ is. subst P (sym is) (omega arith, refl, takes_home log v e old len kept.history pre (length log == old) refl))
    (λ is. subst P (sym is) (omega arith, refl, takes_out log v e old len kept.history pre (suc (length log) == old) refl))
    kept.words

-- ---- the event is added

adds_out : (log v : List Event) (e : Event) (n : ℕ) → length log ≡ n → v ≡ log → MayFollow v e → IsHistory log
    → Goes IsKept shown moved 0 (v, (turn_after n, None)) (λ m. either (m == (n + 1)) (n + 1) m) (Adds (step 0 (n + 1) (n + 1) e) (v, (turn_after n, None))) (one_out (length log)) log
adds_out log v e n here same may legal =
    let legal' : IsHistory (log ++ e ∷ []) = follow_after [] log e legal (subst (λ l. MayFollow l e) same may) in
    let found : (suc (length log) == (n + 1)) ≡ true = grind (arith, nat_tests) in
    let more : length (log ++ e ∷ []) ≡ suc n = omega (arith, length-append log (e ∷ []), here) in
    let m : either (suc (length log) == (n + 1)) (n + 1) (suc (length log)) ≡ length (log ++ e ∷ []) = rw found (omega (arith, more)) in
    let words : at_home (homes_out (suc (length log))) (suc n) ≡ homes (suc (length (log ++ e ∷ []))) =
    ap (λ (k : ℕ). at_home (homes_out (suc (length log))) (suc k)) (sym here)
    ∙ (comes_home (suc (length log)) ∙ ap (λ (k : ℕ). homes (suc k)) (ap suc here ∙ sym more)) in (
      gives,
      e ∷ [],
      None,
      refl,
      record { words = inl (λ i. (m i, true) ∷ words i); history = legal' },
      inl (refl, refl),
      (ap (λ w. w ++ e ∷ []) (sym same), legal'),
    )

-- whatever the book is, the step adds the event to all that was seen: the turn is out, so the history has not grown
pub adds_moves : (v : List Event) (e : Event) (n : ℕ) → length v ≡ n → MayFollow v e
    → Moves IsKept shown moved 0 (v, (turn_after n, None)) (λ m. either (m == (n + 1)) (n + 1) m) (Adds (step 0 (n + 1) (n + 1) e) (v, (turn_after n, None)))
adds_moves v e n len may cs log kept pre away =
    let P : List Cell → Type 0 = λ c. (0 < length c) × ((cell c 0).1 ≡ true) × Goes IsKept shown moved 0 (v, (turn_after n, None)) (λ m. either (m == (n + 1)) (n + 1) m) (Adds (step 0 (n + 1) (n + 1) e) (v, (turn_after n, None))) c log in
    let Q : List Cell → Type 0 = λ c. (place_after n < length c) × ((cell c (place_after n)).1 ≡ false) in
    ⊎_elim
    (λ is. let a = subst Q is (away refl) in absurd (none_is_out (suc (length log)) (suc n) (omega (arith, a.0)) a.1))
    (λ is. let a = subst Q is (away refl) in
    let here : length log ≡ n = let s : suc n ≡ suc (length log) = last_is_out (suc (length log)) (suc n) (omega (arith, a.0)) a.1 in omega (arith, s) in
    let same : v ≡ log = prefix_whole v log pre (omega (arith, here, len)) in
    subst P (sym is) (omega arith, refl, adds_out log v e n here same may kept.history))
    kept.words
