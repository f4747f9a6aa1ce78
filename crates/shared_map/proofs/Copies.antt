-- Copies of lists of shared pointers.
use Rattle.std.proofs.Common.{◌≡◌, ◌⊎◌, inl, inr, ℕ, zero, suc, ◌<◌, length, get_or, Option, Some, None, option_map, List, [], ◌∷◌, ◌++◌, take, drop, refl, sym}
use Rattle.std.proofs.{Common.{ap, subst, ◌∙◌}, lemmas.List.{map-append, take-map, map-set, length-map}}
use Rattle.std.proofs.lemmas.Option.{none-some, slice_get-get_or, slice_get_within}
use Rattle.std.specs.{List.{AllZip, insert, remove}, Prelude.{Result, Ok, Err, IfOk, OnOk, OnErr, IsSomeAnd, slice_get, slice_set}, declared.sync.Arc.Arc}
use Rattle.shared_map.specs.Entries.{values}

-- copies of the pointers point to the same
pub same_values : {X Z : Type 0} (xs ys : List (Arc X Z)) → AllZip (λ x y. y.value ≡ x.value) xs ys → values ys ≡ values xs
same_values [] [] all = refl
same_values [] (y ∷ ys) all = absurd all
same_values (x ∷ xs) [] all = absurd all
same_values (x ∷ xs) (y ∷ ys) all = λ i. all.0 i ∷ same_values xs ys all.1 i

pub kept_or_copied : {X Z : Type 0} {P Q : Type 0} (xs ys : List (Arc X Z)) → (P → ys ≡ xs) → P ⊎ (AllZip (λ x y. y.value ≡ x.value) xs ys × Q) → values ys ≡ values xs
kept_or_copied xs ys same (inl e) = ap values (same e)
kept_or_copied xs ys same (inr both) = same_values xs ys both.0

pub at_err : {X Y : Type 0} (r : Result X Y) (y : Y) (P : Type 0) → r ≡ Err y → OnErr r P → P
at_err r y P is h = subst (λ r. OnErr r P) is h

pub on_err : {X Y : Type 0} (r : Result X Y) (P : Type 0) → P → OnErr r P
on_err (Ok x) P h = tt
on_err (Err y) P h = h

-- edits of the pointers are edits of what they point to
pub values_take : {X Z : Type 0} (i : ℕ) (xs : List (Arc X Z)) → values (take i xs) ≡ take i (values xs)
values_take i xs = sym (take-map (λ a. a.value) i xs)

pub values_drop : {X Z : Type 0} (i : ℕ) (xs : List (Arc X Z)) → values (drop i xs) ≡ drop i (values xs)
values_drop zero xs = refl
values_drop (suc i) [] = refl
values_drop (suc i) (x ∷ xs) = values_drop i xs

pub values_remove : {X Z : Type 0} (i : ℕ) (xs : List (Arc X Z)) → values (remove xs i) ≡ remove (values xs) i
values_remove i xs =
    map-append (λ a. a.value) (take i xs) (drop (suc i) xs)
    ∙ ap (λ l. l ++ values (drop (suc i) xs)) (values_take i xs) ∙ ap (λ l. take i (values xs) ++ l) (values_drop (suc i) xs)

pub values_insert : {X Z : Type 0} (i : ℕ) (xs : List (Arc X Z)) (x : Arc X Z) → values (insert xs i x) ≡ take i (values xs) ++ x.value ∷ drop i (values xs)
values_insert i xs x =
    map-append (λ a. a.value) (take i xs) (x ∷ drop i xs)
    ∙ ap (λ l. l ++ x.value ∷ values (drop i xs)) (values_take i xs) ∙ ap (λ l. take i (values xs) ++ x.value ∷ l) (values_drop i xs)

pub values_set : {X Z : Type 0} (i : ℕ) (xs : List (Arc X Z)) (x : Arc X Z) → values (slice_set xs i x) ≡ slice_set (values xs) i x.value
values_set i xs x = map-set (λ a. a.value) xs i x

pub value_at : {X Z : Type 0} (xs : List (Arc X Z)) (i : ℕ) (x : Arc X Z) → slice_get xs i ≡ Some x → slice_get (values xs) i ≡ Some x.value
value_at [] i x is = absurd (none-some x is)
value_at (y ∷ xs) zero x is = ap (option_map (λ a. a.value)) is
value_at (y ∷ xs) (suc i) x is = value_at xs i x is

-- what an index reads
pub read : {X : Type 0} (xs : List X) (i : ℕ) (x : X) → i < length xs → x ≡ get_or xs i x → slice_get xs i ≡ Some x
read xs i x within is = slice_get-get_or xs i x within ∙ ap Some (sym is)

pub value_read : {X Z : Type 0} (xs : List (Arc X Z)) (i : ℕ) (x : Arc X Z) (e : X) → i < length (values xs) → x ≡ get_or xs i x → e ≡ x.value → slice_get (values xs) i ≡ Some e
value_read xs i x e within is same =
    value_at xs i x (read xs i x (subst (λ n. i < n) (length-map xs (λ a. a.value)) within) is) ∙ ap Some (sym same)

pub ok_then : {X Y : Type 0} (r : Result X Y) (P Q : Type 0) → (P → Q) → OnOk r P → OnOk r Q
ok_then (Ok x) P Q f h = f h
ok_then (Err y) P Q f h = h

pub err_then : {X Y : Type 0} (r : Result X Y) (P Q : Type 0) → (P → Q) → OnErr r P → OnErr r Q
err_then (Ok x) P Q f h = h
err_then (Err y) P Q f h = f h

-- either way
pub both_then : {X Y : Type 0} (r : Result X Y) (P Q S : Type 0) → (P → S) → (Q → S) → OnOk r P → OnErr r Q → S
both_then (Ok x) P Q S f g h k = f h
both_then (Err y) P Q S f g h k = g k

pub within : {X : Type 0} (xs : List X) (i : ℕ) (P : X → Type 0) → IsSomeAnd (slice_get xs i) P → i < length xs
within {X} xs i P h = by (slice_get xs i) refl h
  where
    by : (o : Option X) → slice_get xs i ≡ o → IsSomeAnd o P → i < length xs
    by None is h = absurd h
    by (Some x) is h = slice_get_within xs i x is

pub of_some : {X : Type 0} (o : Option X) (x : X) (P : X → Type 0) → o ≡ Some x → IsSomeAnd o P → P x
of_some o x P is h = subst (λ o. IsSomeAnd o P) is h

pub to_some : {X : Type 0} (o : Option X) (x : X) (P : X → Type 0) → o ≡ Some x → P x → IsSomeAnd o P
to_some o x P is h = subst (λ o. IsSomeAnd o P) (sym is) h

abbrev or_else : {X : Type 0} → X → Option X → X
or_else d None = d
or_else d (Some x) = x

pub same_some : {X : Type 0} (x y : X) → Some x ≡ Some y → x ≡ y
same_some x y e = ap (or_else x) e

pub if_ok : {X Y : Type 0} (r : Result X Y) (P Q : X → Type 0) → ((x : X) → P x → Q x) → IfOk r P → IfOk r Q
if_ok (Ok x) P Q f h = f x h
if_ok (Err y) P Q f h = h
