-- Lists sorted by a test.
use Rattle.std.proofs.Common.{◌≡◌, ℕ, zero, suc, ◌<◌, ◌≤◌, Bool, true, false, cond, not, ◌&&◌, List, [], ◌∷◌, length, map, get_or, refl, sym, ap, ◌∙◌, arith}
use Rattle.std.proofs.{Common.add-one, lemmas.List.Sorted.{sorted_far, IsPermutation-refl, IsPermutation-cons, IsPermutation-trans, IsPermutation-middle}}
use Rattle.std.specs.{Prelude.if◌then◌else◌, Cmp.IsStrictWeakOrder, List.filter, List.Sorted.{IsPermutation, IsSortedBy, IsStableBy, ties}}

-- x, put before the first that is not less
abbrev pub put_by : {X : Type 0} → (X → X → Bool) → X → List X → List X
put_by lt x [] = x ∷ []
put_by lt x (y ∷ ys) = if lt y x then y ∷ put_by lt x ys else x ∷ y ∷ ys

-- each put among those behind it
abbrev pub sorted_by : {X : Type 0} → (X → X → Bool) → List X → List X
sorted_by lt [] = []
sorted_by lt (x ∷ xs) = put_by lt x (sorted_by lt xs)

module _ {X Y : Type 0} (f : X → Y) (lt : Y → Y → Bool) where
  put_by-map : (x : X) (ys : List X) → map f (put_by (λ y z. lt (f y) (f z)) x ys) ≡ put_by lt (f x) (map f ys)
  put_by-map x [] = refl
  put_by-map x (y ∷ ys) =
      by (put_by-map x ys) (lt (f y) (f x))
    where
      by : map f (put_by (λ y z. lt (f y) (f z)) x ys) ≡ put_by lt (f x) (map f ys)
          → (b : Bool) → map f (cond b (y ∷ put_by (λ y z. lt (f y) (f z)) x ys) (x ∷ y ∷ ys))
          ≡ cond b (f y ∷ put_by lt (f x) (map f ys)) (f x ∷ f y ∷ map f ys)
      by rest true = ap (λ zs. f y ∷ zs) rest
      by rest false = refl

  -- what is sorted by what f gives, by f
  pub sorted_by-map : (xs : List X) → map f (sorted_by (λ y z. lt (f y) (f z)) xs) ≡ sorted_by lt (map f xs)
  sorted_by-map [] = refl
  sorted_by-map (x ∷ xs) = put_by-map x (sorted_by (λ y z. lt (f y) (f z)) xs) ∙ ap (put_by lt (f x)) (sorted_by-map xs)

module _ {X : Type 0} (lt : X → X → Bool) where
  put_permutation : (x : X) (ys : List X) → IsPermutation (x ∷ ys) (put_by lt x ys)
  put_permutation x [] = IsPermutation-refl (x ∷ [])
  put_permutation x (y ∷ ys) =
      by (put_permutation x ys) (lt y x)
    where
      by : IsPermutation (x ∷ ys) (put_by lt x ys) → (b : Bool) → IsPermutation (x ∷ y ∷ ys) (cond b (y ∷ put_by lt x ys) (x ∷ y ∷ ys))
      by rest true =
          IsPermutation-trans (x ∷ y ∷ ys) (y ∷ x ∷ ys) (y ∷ put_by lt x ys) (IsPermutation-middle (x ∷ []) y ys)
          (IsPermutation-cons y (x ∷ ys) (put_by lt x ys) rest)
      by rest false = IsPermutation-refl (x ∷ y ∷ ys)

  -- the elements are the same
  pub sorted_by_permutation : (xs : List X) → IsPermutation xs (sorted_by lt xs)
  sorted_by_permutation [] = IsPermutation-refl []
  sorted_by_permutation (x ∷ xs) =
      IsPermutation-trans (x ∷ xs) (x ∷ sorted_by lt xs) (put_by lt x (sorted_by lt xs)) (IsPermutation-cons x xs (sorted_by lt xs) (sorted_by_permutation xs))
      (put_permutation x (sorted_by lt xs))

module _ {X : Type 0} (lt : X → X → Bool) (order : IsStrictWeakOrder lt) where
  -- none of them is less than x
  abbrev Above : X → List X → Type 0
  Above x [] = Unit {0}
  Above x (y ∷ ys) = (lt y x ≡ false) × Above x ys

  -- none is less than one before it
  abbrev Rises : List X → Type 0
  Rises [] = Unit {0}
  Rises (x ∷ xs) = Above x xs × Rises xs

  above_chain : (x y : X) (zs : List X) → lt y x ≡ false → Above y zs → Above x zs
  above_chain x y [] e h = tt
  above_chain x y (z ∷ zs) e h = (order.chain z y x h.0 e, above_chain x y zs e h.1)

  above_from : (x : X) (xs : List X) → ((k : ℕ) → k < length xs → lt (get_or xs k x) x ≡ false) → Above x xs
  above_from x [] h = tt
  above_from x (y ∷ ys) h = (h 0 (omega arith), above_from x ys (λ k w. h (suc k) (omega arith)))

  rises_from : (xs : List X) → ((i j : ℕ) (d : X) → i ≤ j → j < length xs → lt (get_or xs j d) (get_or xs i d) ≡ false) → Rises xs
  rises_from [] h = tt
  rises_from (x ∷ xs) h =
      (above_from x xs (λ k w. h 0 (suc k) x (omega arith) (omega arith)), rises_from xs (λ i j d le w. h (suc i) (suc j) d (omega arith) (omega arith)))

  sorted_from : (xs : List X) → Rises xs → IsSortedBy lt xs
  sorted_from [] h k d low w = absurd (omega arith)
  sorted_from (x ∷ []) h k d low w = absurd (omega arith)
  sorted_from (x ∷ y ∷ ys) h zero d low w = h.0.0
  sorted_from (x ∷ y ∷ ys) h (suc k) d low w =
      ap (λ n. lt (get_or (x ∷ y ∷ ys) n d) (get_or (y ∷ ys) k d)) (add-one (suc k) ∙ ap suc (sym (add-one k)))
      ∙ sorted_from (y ∷ ys) h.1 k d (omega arith) (omega arith)

  above_put : (y x : X) (zs : List X) → lt x y ≡ false → Above y zs → Above y (put_by lt x zs)
  above_put y x [] e h = (e, tt)
  above_put y x (z ∷ zs) e h =
      by (above_put y x zs e h.1) (lt z x)
    where
      by : Above y (put_by lt x zs) → (b : Bool) → Above y (cond b (z ∷ put_by lt x zs) (x ∷ z ∷ zs))
      by rest true = (h.0, rest)
      by rest false = (e, h)

  rises_put : (x : X) (ys : List X) → Rises ys → Rises (put_by lt x ys)
  rises_put x [] h = (tt, tt)
  rises_put x (y ∷ ys) h =
      by (rises_put x ys h.1) (lt y x) refl
    where
      by : Rises (put_by lt x ys) → (b : Bool) → lt y x ≡ b → Rises (cond b (y ∷ put_by lt x ys) (x ∷ y ∷ ys))
      by rest true less = (above_put y x ys (order.one_way y x less) h.0, rest)
      by rest false not_less = ((not_less, above_chain x y ys not_less h.0), h)

  rises_sorted : (xs : List X) → Rises (sorted_by lt xs)
  rises_sorted [] = tt
  rises_sorted (x ∷ xs) = rises_put x (sorted_by lt xs) (rises_sorted xs)

  -- and they are in order
  pub sorted_by_sorted : (xs : List X) → IsSortedBy lt (sorted_by lt xs)
  sorted_by_sorted xs = sorted_from (sorted_by lt xs) (rises_sorted xs)

  both : (a b : Bool) → (not a && not b) ≡ true → (a ≡ false) × (b ≡ false)
  both false false e = (refl, refl)
  both false true e = cc
  both true b e = cc

  tied_not_less : (t x y : X) → ties lt t x ≡ true → ties lt t y ≡ true → lt y x ≡ false
  tied_not_less t x y e g = order.chain y t x (both (lt t y) (lt y t) g).1 (both (lt t x) (lt x t) e).0

  put_stable : (t x : X) (ys : List X) → filter (ties lt t) (put_by lt x ys) ≡ filter (ties lt t) (x ∷ ys)
  put_stable t x [] = refl
  put_stable t x (y ∷ ys) =
      by (put_stable t x ys) (lt y x) refl
    where
      kept : List X
      kept = filter (ties lt t) ys

      swapped : (a b : Bool) → ties lt t x ≡ a → ties lt t y ≡ b → lt y x ≡ true
          → cond b (y ∷ cond a (x ∷ kept) kept) (cond a (x ∷ kept) kept) ≡ cond a (x ∷ cond b (y ∷ kept) kept) (cond b (y ∷ kept) kept)
      swapped true true e g less = cc (sym less ∙ tied_not_less t x y e g)
      swapped true false e g less = refl
      swapped false true e g less = refl
      swapped false false e g less = refl

      by : filter (ties lt t) (put_by lt x ys) ≡ filter (ties lt t) (x ∷ ys)
          → (b : Bool) → lt y x ≡ b → filter (ties lt t) (cond b (y ∷ put_by lt x ys) (x ∷ y ∷ ys)) ≡ filter (ties lt t) (x ∷ y ∷ ys)
      by rest true less =
          ap (λ zs. cond (ties lt t y) (y ∷ zs) zs) rest ∙ swapped (ties lt t x) (ties lt t y) refl refl less
      by rest false not_less = refl

  -- those that tie stay in their order
  pub sorted_by_stable : (xs : List X) → IsStableBy lt xs (sorted_by lt xs)
  sorted_by_stable [] t = refl
  sorted_by_stable (x ∷ xs) t = put_stable t x (sorted_by lt xs) ∙ ap (λ zs. cond (ties lt t x) (x ∷ zs) zs) (sorted_by_stable xs t)

  not_less_itself : (x : X) → lt x x ≡ false
  not_less_itself x =
      by (lt x x) refl
    where
      by : (b : Bool) → lt x x ≡ b → lt x x ≡ false
      by true less = order.one_way x x less
      by false not_less = not_less

  tied_itself : (x : X) → ties lt x x ≡ true
  tied_itself x = ap (λ b. not b && not b) (not_less_itself x)

  less_on : (y z w : X) → lt y z ≡ true → lt w z ≡ false → lt y w ≡ true
  less_on y z w e h =
      by (lt y w) refl
    where
      by : (b : Bool) → lt y w ≡ b → lt y w ≡ true
      by true less = less
      by false not_less = cc (sym e ∙ order.chain y w z not_less h)

  apart : (y w : X) → lt y w ≡ true → ties lt y w ≡ false
  apart y w less = ap (λ b. not b && not (lt w y)) less

  -- what is less than the first ties with none
  none_tied : (y z : X) (ws : List X) → lt y z ≡ true → Above z ws → filter (ties lt y) ws ≡ []
  none_tied y z [] e h = refl
  none_tied y z (w ∷ ws) e h =
      ap (λ b. cond b (w ∷ filter (ties lt y) ws) (filter (ties lt y) ws)) (apart y w (less_on y z w e h.0)) ∙ none_tied y z ws e h.1

  first_kept : (y : X) (ys : List X) → filter (ties lt y) (y ∷ ys) ≡ y ∷ filter (ties lt y) ys
  first_kept y ys = ap (λ b. cond b (y ∷ filter (ties lt y) ys) (filter (ties lt y) ys)) (tied_itself y)

  not_less : (y z : X) (ys zs : List X) → Above z zs → filter (ties lt y) (y ∷ ys) ≡ filter (ties lt y) (z ∷ zs) → lt y z ≡ false
  not_less y z ys zs h same =
      by (lt y z) refl
    where
      by : (b : Bool) → lt y z ≡ b → lt y z ≡ false
      by true less = cc (sym (first_kept y ys) ∙ same ∙ none_tied y z (z ∷ zs) less (not_less_itself z, h))
      by false is = is

  one_less : (b : Bool) (y : X) (us vs : List X) → cond b (y ∷ us) us ≡ cond b (y ∷ vs) vs → us ≡ vs
  one_less true y us vs e = cc
  one_less false y us vs e = e

  -- of two lists in order that keep the same of those that tie with each, one is the other
  same_by_ties : (ys zs : List X) → Rises ys → Rises zs → ((t : X) → filter (ties lt t) ys ≡ filter (ties lt t) zs) → ys ≡ zs
  same_by_ties [] [] up to same = refl
  same_by_ties [] (z ∷ zs) up to same = cc (same z ∙ first_kept z zs)
  same_by_ties (y ∷ ys) [] up to same = cc (sym (first_kept y ys) ∙ same y)
  same_by_ties (y ∷ ys) (z ∷ zs) up to same =
      let above = not_less y z ys zs to.0 (same y) in
      let below = not_less z y zs ys up.0 (sym (same z)) in
      let tied : ties lt y z ≡ true = (λ i. not (above i) && not (below i)) in
      let both_first : y ∷ filter (ties lt y) ys ≡ z ∷ filter (ties lt y) zs =
      sym (first_kept y ys) ∙ same y ∙ ap (λ b. cond b (z ∷ filter (ties lt y) zs) (filter (ties lt y) zs)) tied in
      let first : y ≡ z = cc both_first in
      let rest = λ (t : X). one_less (ties lt t y) y (filter (ties lt t) ys) (filter (ties lt t) zs)
      (same t ∙ ap (λ x. cond (ties lt t x) (x ∷ filter (ties lt t) zs) (filter (ties lt t) zs)) (sym first)) in
      λ i. first i ∷ same_by_ties ys zs up.1 to.1 rest i

  -- what a stable sort leaves is the list sorted so
  pub stable_is_sorted_by : (xs ys : List X) → IsSortedBy lt ys → IsStableBy lt xs ys
      → ys ≡ sorted_by lt xs
  stable_is_sorted_by xs ys up stable =
      same_by_ties ys (sorted_by lt xs) (rises_from ys (sorted_far lt order ys up)) (rises_sorted xs) (λ t. stable t ∙ sym (sorted_by_stable xs t))
