-- The entries of parts, around one of them.
use Rattle.std.proofs.Common.{◌≡◌, ◌+◌, ℕ, zero, suc, List, [], ◌∷◌, ◌++◌, take, drop, Option, Some, None, refl, sym, ap, subst, arith, ◌∙◌}
use Rattle.std.proofs.{lemmas.List.{map-append, append_assoc, set_split}, lemmas.List.Concat.flat_map-append, lemmas.Option.{none-some, slice_get_within}}
use Rattle.std.specs.{Prelude.{slice_get, slice_set}, List.{AllByRecursion, flat_map, insert, remove}, declared.sync.Arc.Arc, declared.vec.Vec.Vec}
use Rattle.shared_map.specs.Entries.{values, part_entries, all_entries, IsFilled}

pub suc_is : (i : ℕ) → suc i ≡ i + 1
suc_is i = omega arith

one_more : {X : Type 0} (xs : List X) (i : ℕ) → drop (suc i) xs ≡ drop (i + 1) xs
one_more xs i = ap (λ n. drop n xs) (suc_is i)

split_suc : {X : Type 0} (xs : List X) (i : ℕ) (x : X) → slice_get xs i ≡ Some x → xs ≡ take i xs ++ x ∷ drop (suc i) xs
split_suc [] i x is = absurd (none-some x is)
split_suc (y ∷ xs) zero x is = ap (λ o. head y o ∷ xs) is
  where
    head : {X : Type 0} → X → Option X → X
    head d None = d
    head d (Some z) = z
split_suc (y ∷ xs) (suc i) x is = ap (λ l. y ∷ l) (split_suc xs i x is)

-- a list around one of its places
pub split_at : {X : Type 0} (xs : List X) (i : ℕ) (x : X) → slice_get xs i ≡ Some x → xs ≡ take i xs ++ x ∷ drop (i + 1) xs
split_at xs i x is = split_suc xs i x is ∙ ap (λ l. take i xs ++ x ∷ l) (one_more xs i)

pub set_at : {X : Type 0} (xs : List X) (i : ℕ) (x y : X) → slice_get xs i ≡ Some x → slice_set xs i y ≡ take i xs ++ y ∷ drop (i + 1) xs
set_at xs i x y is = set_split xs i y (slice_get_within xs i x is) ∙ ap (λ l. take i xs ++ y ∷ l) (one_more xs i)

pub remove_is : {X : Type 0} (xs : List X) (i : ℕ) → remove xs i ≡ take i xs ++ drop (i + 1) xs
remove_is xs i = ap (λ l. take i xs ++ l) (one_more xs i)

-- another one at the place, and one more behind it
two_suc : {X : Type 0} (xs : List X) (i : ℕ) (x y z : X) → slice_get xs i ≡ Some x → slice_set (insert xs (suc i) z) i y ≡ take i xs ++ y ∷ z ∷ drop (suc i) xs
two_suc [] i x y z is = absurd (none-some x is)
two_suc (w ∷ xs) zero x y z is = refl
two_suc (w ∷ xs) (suc i) x y z is = ap (λ l. w ∷ l) (two_suc xs i x y z is)

pub two_at : {X : Type 0} (xs : List X) (i : ℕ) (x y z : X) → slice_get xs i ≡ Some x → slice_set (insert xs (i + 1) z) i y ≡ take i xs ++ y ∷ z ∷ drop (i + 1) xs
two_at xs i x y z is =
    ap (λ n. slice_set (insert xs n z) i y) (sym (suc_is i)) ∙ two_suc xs i x y z is ∙ ap (λ l. take i xs ++ y ∷ z ∷ l) (one_more xs i)

module _ {X Y Z V : Type 0} where
  pub entries_append : (xs ys : List (Arc (Vec (Arc X Y) Z) V)) → all_entries (xs ++ ys) ≡ all_entries xs ++ all_entries ys
  entries_append xs ys =
      ap (flat_map part_entries) (map-append (λ a. a.value) xs ys) ∙ flat_map-append part_entries (values xs) (values ys)

  -- around a part
  pub entries_around : (parts before behind : List (Arc (Vec (Arc X Y) Z) V)) (a : Arc (Vec (Arc X Y) Z) V) → parts ≡ before ++ a ∷ behind
      → all_entries parts ≡ all_entries before ++ (part_entries a.value ++ all_entries behind)
  entries_around parts before behind a is = ap all_entries is ∙ entries_append before (a ∷ behind)

  -- around two
  pub entries_two : (parts before behind : List (Arc (Vec (Arc X Y) Z) V)) (a b : Arc (Vec (Arc X Y) Z) V) (es : List X) → parts ≡ before ++ a ∷ b ∷ behind
      → part_entries a.value ++ part_entries b.value ≡ es → all_entries parts ≡ all_entries before ++ (es ++ all_entries behind)
  entries_two parts before behind a b es is both =
      ap all_entries is ∙ entries_append before (a ∷ b ∷ behind)
      ∙ ap (λ l. all_entries before ++ l) (sym (append_assoc (part_entries a.value) (part_entries b.value) (all_entries behind)) ∙ ap (λ l. l ++ all_entries behind) both)

-- ---- parts that are filled

abbrev pub AreFilled : {X Y Z V : Type 0} → List (Arc (Vec (Arc X Y) Z) V) → Type 0
AreFilled parts = AllByRecursion IsFilled (values parts)

pub one_and : {X : Type 0} (P : X → Type 0) (x : X) (xs : List X) → P x → AllByRecursion P xs → AllByRecursion P (x ∷ xs)
one_and P x xs h all = (h, all)

pub filled_set : {X Y Z V : Type 0} (parts : List (Arc (Vec (Arc X Y) Z) V)) (i : ℕ) (b : Arc (Vec (Arc X Y) Z) V) → AreFilled parts → IsFilled b.value → AreFilled (slice_set parts i b)
filled_set [] i b all h = tt
filled_set (p ∷ parts) zero b all h = one_and IsFilled b.value (values parts) h all.1
filled_set (p ∷ parts) (suc i) b all h = one_and IsFilled p.value (values (slice_set parts i b)) all.0 (filled_set parts i b all.1 h)

filled_two : {X Y Z V : Type 0} (parts : List (Arc (Vec (Arc X Y) Z) V)) (i : ℕ) (a b d : Arc (Vec (Arc X Y) Z) V) → slice_get parts i ≡ Some a
    → AreFilled parts → IsFilled b.value → IsFilled d.value → AreFilled (take i parts ++ b ∷ d ∷ drop (suc i) parts)
filled_two [] i a b d is all h k = absurd (none-some a is)
filled_two (p ∷ parts) zero a b d is all h k = one_and IsFilled b.value (d.value ∷ values parts) h (one_and IsFilled d.value (values parts) k all.1)
filled_two (p ∷ parts) (suc i) a b d is all h k =
    one_and IsFilled p.value (values (take i parts ++ b ∷ d ∷ drop (suc i) parts)) all.0 (filled_two parts i a b d is all.1 h k)

pub filled_both : {X Y Z V : Type 0} (parts : List (Arc (Vec (Arc X Y) Z) V)) (i : ℕ) (a b d : Arc (Vec (Arc X Y) Z) V) → slice_get parts i ≡ Some a
    → AreFilled parts → IsFilled b.value → IsFilled d.value → AreFilled (slice_set (insert parts (i + 1) d) i b)
filled_both parts i a b d is all h k = subst AreFilled (sym (two_at parts i a b d is ∙ ap (λ l. take i parts ++ b ∷ d ∷ l) (sym (one_more parts i)))) (filled_two parts i a b d is all h k)

pub filled_less : {X Y Z V : Type 0} (parts : List (Arc (Vec (Arc X Y) Z) V)) (i : ℕ) → AreFilled parts → AreFilled (remove parts i)
filled_less [] zero all = tt
filled_less [] (suc i) all = tt
filled_less (p ∷ parts) zero all = all.1
filled_less (p ∷ parts) (suc i) all = one_and IsFilled p.value (values (remove parts i)) all.0 (filled_less parts i all.1)
