-- Sessions in a list.
use Rattle.std.proofs.Common.{◌≡◌, ℕ, List, [], ◌∷◌, Some, None, Bool, true, false, refl, ap, ◌∙◌, arith, ◌<◌, ◌≤◌, ◌+◌, below_more, length, suc, zero}
use Rattle.std.proofs.{lemmas.Bool.Decides.nat_tests, lemmas.Option.slice_get_within}
use Rattle.std.specs.{Prelude.{if◌then◌else◌, slice_set}, List.slice_get}
use Rattle.machine.specs.Stages.{is_open, SessionState}
use Rattle.hub.specs.{SessionLaws.{session_of-without, updated_updated, without-updated}, State.{Finds, kept, session_of, updated, without}}

pub updated_same : (xs : List (ℕ × SessionState)) (n : ℕ) (s : SessionState) → session_of xs n ≡ Some s → updated xs n s ≡ xs
updated_same [] n s h = refl
updated_same ((m, t) ∷ xs) n s h = grind (arith, nat_tests, updated_same xs n s)

pub without_none : (xs : List (ℕ × SessionState)) (n : ℕ) → session_of xs n ≡ None → without xs n ≡ xs
without_none [] n h = refl
without_none (x ∷ xs) n h = grind (arith, nat_tests, without_none xs n)

pub kept_kept : (xs : List (ℕ × SessionState)) (n : ℕ) (s t : SessionState) → is_open s.phase ≡ true → kept (kept xs n s) n t ≡ kept xs n t
kept_kept xs n s t o = grind (arith, updated_updated xs n s t, without-updated xs n s)

without-without : (xs : List (ℕ × SessionState)) (n : ℕ) → without (without xs n) n ≡ without xs n
without-without xs n = without_none (without xs n) n (session_of-without xs n)

pub without-kept : (xs : List (ℕ × SessionState)) (n : ℕ) (t : SessionState) → without (kept xs n t) n ≡ without xs n
without-kept xs n t = grind (arith, without-updated xs n t, without-without xs n)

abbrev pub NoneBelow : List (ℕ × SessionState) → ℕ → ℕ → Type 0
NoneBelow xs n i = (k : ℕ) → k < i → (y : ℕ × SessionState) → slice_get xs k ≡ Some y → y.0 ≡ n → ⊥

found_is : (xs : List (ℕ × SessionState)) (n i : ℕ) (x : ℕ × SessionState) → slice_get xs i ≡ Some x → x.0 ≡ n → NoneBelow xs n i → session_of xs n ≡ Some x.1
found_is [] n i x h e b = cc
found_is (y ∷ ys) n zero x h e b = grind (arith, nat_tests)
found_is (y ∷ ys) n (suc i) x h e b =
    let ne : y.0 ≡ n → ⊥ = λ k. b 0 (omega arith) y refl k in
    let ih = found_is ys n i x h e (λ k lt z. b (suc k) (omega arith) z) in
    grind (arith, nat_tests)

found_update : (xs : List (ℕ × SessionState)) (n i : ℕ) (x : ℕ × SessionState) (s : SessionState) → slice_get xs i ≡ Some x → x.0 ≡ n → NoneBelow xs n i → slice_set xs i (n, s) ≡ updated xs n s
found_update [] n i x s h e b = refl
found_update (y ∷ ys) n zero x s h e b = grind (arith, nat_tests)
found_update (y ∷ ys) n (suc i) x s h e b =
    let ne : y.0 ≡ n → ⊥ = λ k. b 0 (omega arith) y refl k in
    let ih = found_update ys n i x s h e (λ k lt z. b (suc k) (omega arith) z) in
    grind (arith, nat_tests)

pub finds : (xs : List (ℕ × SessionState)) (n i : ℕ) (x : ℕ × SessionState) → slice_get xs i ≡ Some x → x.0 ≡ n → NoneBelow xs n i → Finds xs n i
finds xs n i x h e b = record {
  lt = slice_get_within xs i x h;
  session = x.1;
  is = found_is xs n i x h e b;
  at = h ∙ ap (λ (m : ℕ). Some (m, x.1)) e;
  update = λ s. found_update xs n i x s h e b;
}

pub none_found : (xs : List (ℕ × SessionState)) (n : ℕ) → NoneBelow xs n (length xs) → session_of xs n ≡ None
none_found [] n b = refl
none_found (y ∷ ys) n b =
    let ne : y.0 ≡ n → ⊥ = λ k. b 0 (omega arith) y refl k in
    let ih = none_found ys n (λ k lt z. b (suc k) (omega arith) z) in
    grind (arith, nat_tests)

-- the session's new state is written, and it is dropped where it has ended
pub settled : (xs ys : List (ℕ × SessionState)) (n i m : ℕ) (s : SessionState) (b : Bool) → Finds xs n i → m ≡ n → b ≡ is_open s.phase
    → ys ≡ (if b then slice_set xs i (m, s) else without (slice_set xs i (m, s)) n) → ys ≡ kept xs n s
settled xs ys n i m s b f e lives is =
    let sets : slice_set xs i (m, s) ≡ updated xs n s = ap (λ (k : ℕ). slice_set xs i (k, s)) e ∙ f.update s in
    is ∙ ap (λ (zs : List (ℕ × SessionState)). if b then zs else without zs n) sets
    ∙ (elim b as (λ x. (if x then updated xs n s else without (updated xs n s) n) ≡ (if x then updated xs n s else without xs n)) [ true ↦ refl | false ↦ without-updated xs n s ])
    ∙ ap (λ (x : Bool). if x then updated xs n s else without xs n) lives

pub kept_ended : (xs : List (ℕ × SessionState)) (n : ℕ) (s : SessionState) → is_open s.phase ≡ false → kept xs n s ≡ without xs n
kept_ended xs n s e = ap (λ (b : Bool). if b then updated xs n s else without xs n) e

pub none_more : (xs : List (ℕ × SessionState)) (n i : ℕ) (x : ℕ × SessionState) → NoneBelow xs n i → slice_get xs i ≡ Some x → (x.0 ≡ n → ⊥) → NoneBelow xs n (i + 1)
none_more xs n i x b h ne =
    below_more (λ k. (y : ℕ × SessionState) → slice_get xs k ≡ Some y → y.0 ≡ n → ⊥) i b
    (λ y at e. let same : x ≡ y = cc in ne (ap (λ (z : ℕ × SessionState). z.0) same ∙ e))

pub none_to : (xs : List (ℕ × SessionState)) (n i : ℕ) → NoneBelow xs n i → length xs ≤ i → NoneBelow xs n (length xs)
none_to xs n i b le k lt = b k (omega arith)
