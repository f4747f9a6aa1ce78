-- Rows in the order of their names, around the place of a name.
use Rattle.std.proofs.Common.{◌≡◌, ◌+◌, ℕ, zero, suc, Bool, true, false, cond, List, [], ◌∷◌, ◌++◌, take, drop, Option, Some, None, refl, sym, ap, subst}
use Rattle.std.proofs.{Common.{append-nil, arith, ◌∙◌}, lemmas.Bool.false≢true, lemmas.List.{take-append-drop, set_split}}
use Rattle.std.proofs.lemmas.Option.{none-some, slice_get-get_or, slice_get_within}
use Rattle.std.specs.{Prelude.{T, ◌&&◌, ◌<◌, IsSomeAnd, slice_get, slice_set, get_or, length}, List.{AllByRecursion, insert, remove}}
use Rattle.std.specs.{Cmp.{IsTotalOrder, alike_right, tied_itself}, Cmp.Lexicographic.{slice_cmp, nat_list_cmp_total}}
use Rattle.std.specs.{FinMap.Entries.{by_order, put, below_all, is_sorted-put}, FinMap.{IsAntisymmetric, slice_cmp-IsAntisymmetric, nat_cmp-IsAntisymmetric}}
use Rattle.std.specs.{BTreeMap.is_at, Ordering.{is_eq, is_lt, nat_cmp, match_ordering, ordering_reverse}, declared.cmp.Ordering.Ordering}
use Rattle.std.specs.declared.cmp.Ordering.TheVariants.{Less, Equal, Greater}
use Rattle.repo_api.specs.{Properties.{PropertyList, property_value, with_property, without_property}, Rows.{AreInOrder, IsBetween}}

first : (a b : Bool) → T (a && b) → T a
first true b p = tt
first false b p = p

second : (a b : Bool) → T (a && b) → T b
second true b p = p
second false b p = absurd p

both : (a b : Bool) → T a → T b → T (a && b)
both true true p q = tt
both true false p q = q
both false b p q = p

is_less : (r : Ordering) → T (is_lt r) → r ≡ Less
is_less Less p = refl
is_less Equal p = absurd p
is_less Greater p = absurd p

all_append : {X : Type 0} (P : X → Type 0) (A B : List X) → AllByRecursion P A → AllByRecursion P B → AllByRecursion P (A ++ B)
all_append P [] B p q = q
all_append P (a ∷ A) B p q = (p.0, all_append P A B p.1 q)

-- ---- a list around one of its places

suc_is : (i : ℕ) → suc i ≡ i + 1
suc_is i = omega arith

next : (i : ℕ) → suc (i + 1) ≡ suc i + 1
next i = omega arith

module _ {X : Type 0} where
  abbrev head : X → Option X → X
  head d None = d
  head d (Some z) = z

  pub drop_at : (xs : List X) (i : ℕ) (x : X) → slice_get xs i ≡ Some x → drop i xs ≡ x ∷ drop (i + 1) xs
  drop_at [] i x is = absurd (none-some x is)
  drop_at (y ∷ xs) zero x is = ap (λ o. head y o ∷ xs) is
  drop_at (y ∷ xs) (suc i) x is = drop_at xs i x is ∙ ap (λ l. x ∷ l) (ap (λ n. drop n (y ∷ xs)) (next i))

  take_suc : (xs : List X) (i : ℕ) (x : X) → slice_get xs i ≡ Some x → take (suc i) xs ≡ take i xs ++ x ∷ []
  take_suc [] i x is = absurd (none-some x is)
  take_suc (y ∷ xs) zero x is = ap (λ o. head y o ∷ []) is
  take_suc (y ∷ xs) (suc i) x is = ap (λ l. y ∷ l) (take_suc xs i x is)

  take_at : (xs : List X) (i : ℕ) (x : X) → slice_get xs i ≡ Some x → take (i + 1) xs ≡ take i xs ++ x ∷ []
  take_at xs i x is = ap (λ n. take n xs) (sym (suc_is i)) ∙ take_suc xs i x is

  split_at : (xs : List X) (i : ℕ) (x : X) → slice_get xs i ≡ Some x → xs ≡ take i xs ++ x ∷ drop (i + 1) xs
  split_at xs i x is = sym (take-append-drop i xs) ∙ ap (λ l. take i xs ++ l) (drop_at xs i x is)

  set_at : (xs : List X) (i : ℕ) (x y : X) → slice_get xs i ≡ Some x → slice_set xs i y ≡ take i xs ++ y ∷ drop (i + 1) xs
  set_at xs i x y is = set_split xs i y (slice_get_within xs i x is) ∙ ap (λ n. take i xs ++ y ∷ drop n xs) (suc_is i)

  remove_is : (xs : List X) (i : ℕ) → remove xs i ≡ take i xs ++ drop (i + 1) xs
  remove_is xs i = ap (λ n. take i xs ++ drop n xs) (suc_is i)

  -- what an index reads
  pub read : (xs : List X) (i : ℕ) (x : X) → i < length xs → x ≡ get_or xs i x → slice_get xs i ≡ Some x
  read xs i x within is = slice_get-get_or xs i x within ∙ ap Some (sym is)

  within : (xs : List X) (i : ℕ) (P : X → Type 0) → IsSomeAnd (slice_get xs i) P → i < length xs
  within xs i P h = by (slice_get xs i) refl h
    where
      by : (o : Option X) → slice_get xs i ≡ o → IsSomeAnd o P → i < length xs
      by None is h = absurd h
      by (Some x) is h = slice_get_within xs i x is

  of_some : (o : Option X) (x : X) (P : X → Type 0) → o ≡ Some x → IsSomeAnd o P → P x
  of_some o x P is h = subst (λ o. IsSomeAnd o P) is h

-- ---- names by their bytes

abbrev by_bytes : List ℕ → List ℕ → Ordering
by_bytes = slice_cmp nat_cmp

total : IsTotalOrder by_bytes
total = nat_list_cmp_total

same_name : IsAntisymmetric by_bytes
same_name = slice_cmp-IsAntisymmetric nat_cmp-IsAntisymmetric

abbrev Above : List ℕ → PropertyList → Type 0
Above k es = AllByRecursion (λ e. by_bytes k e.0 ≡ Greater) es

abbrev Below : List ℕ → PropertyList → Type 0
Below k es = AllByRecursion (λ e. by_bytes k e.0 ≡ Less) es

less_then : (a e k : List ℕ) → by_bytes a e ≡ Less → is_lt (by_bytes k e) ≡ false → by_bytes k a ≡ Greater
less_then a e k lt at = by (by_bytes k e) refl at
  where
    by : (r : Ordering) → by_bytes k e ≡ r → is_lt r ≡ false → by_bytes k a ≡ Greater
    by Less is h = absurd (false≢true (sym h))
    by Equal is h = total.antisymm k a ∙ ap ordering_reverse (alike_right total k e a is ∙ lt)
    by Greater is h = total.antisymm k a ∙ ap ordering_reverse (total.trans a e k lt (total.antisymm e k ∙ ap ordering_reverse is))

below_at : (x : List ℕ) (A : PropertyList) (e : List ℕ × List ℕ) (B : PropertyList) → T (below_all by_bytes x (A ++ e ∷ B)) → by_bytes x e.0 ≡ Less
below_at x [] e B h = is_less _ (first _ _ h)
below_at x (a ∷ A) e B h = below_at x A e B (second _ _ h)

above : (k : List ℕ) (A : PropertyList) (e : List ℕ × List ℕ) (B : PropertyList) → AreInOrder (A ++ e ∷ B) → is_lt (by_bytes k e.0) ≡ false → Above k A
above k [] e B h at = tt
above k (a ∷ A) e B h at = (less_then a.0 e.0 k (below_at a.0 A e B (first _ _ h)) at, above k A e B (second _ _ h) at)

below_less : (k x : List ℕ) (B : PropertyList) → by_bytes k x ≡ Less → T (below_all by_bytes x B) → Below k B
below_less k x [] lt h = tt
below_less k x (b ∷ B) lt h = (total.trans k x b.0 lt (is_less _ (first _ _ h)), below_less k x B lt (second _ _ h))

below_same : (k x : List ℕ) (B : PropertyList) → by_bytes k x ≡ Equal → T (below_all by_bytes x B) → Below k B
below_same k x [] at h = tt
below_same k x (b ∷ B) at h = (total.congr k x b.0 at ∙ is_less _ (first _ _ h), below_same k x B at (second _ _ h))

order_right : (A B : PropertyList) → AreInOrder (A ++ B) → AreInOrder B
order_right [] B h = h
order_right (a ∷ A) B h = order_right A B (second _ _ h)

-- ---- what a look at one row says

module _ (es : PropertyList) (order : AreInOrder es) (name : List ℕ) (i : ℕ) (e : List ℕ × List ℕ) (is : slice_get es i ≡ Some e) where
  halved : AreInOrder (take i es ++ e ∷ drop (i + 1) es)
  halved = subst AreInOrder (split_at es i e is) order

  above_here : is_lt (by_bytes name e.0) ≡ false → Above name (take i es)
  above_here at = above name (take i es) e (drop (i + 1) es) halved at

  pub past : by_bytes name e.0 ≡ Greater → Above name (take (i + 1) es)
  past at = subst (Above name) (sym (take_at es i e is))
      (all_append (λ d. by_bytes name d.0 ≡ Greater) (take i es) (e ∷ []) (above_here (ap is_lt at)) (at, tt))

  pub not_yet : by_bytes name e.0 ≡ Less → Below name (drop i es)
  not_yet at = subst (Below name) (sym (drop_at es i e is))
      (at, below_less name e.0 (drop (i + 1) es) at (first _ _ (order_right (take i es) _ halved)))

  pub here : by_bytes name e.0 ≡ Equal → IsBetween name (take i es) (drop (i + 1) es)
  here at = record {
    above = above_here (ap is_lt at);
    below = below_same name e.0 (drop (i + 1) es) at (first _ _ (order_right (take i es) _ halved));
  }

-- ---- what is found

find_past : (k : List ℕ) (A B : PropertyList) → Above k A → property_value (A ++ B) k ≡ property_value B k
find_past k [] B h = refl
find_past k (a ∷ A) B h = ap (λ r. cond (is_eq r) (Some a.1) (property_value (A ++ B) k)) h.0 ∙ find_past k A B h.1

find_none : (k : List ℕ) (B : PropertyList) → Below k B → property_value B k ≡ None
find_none k [] h = refl
find_none k (b ∷ B) h = ap (λ r. cond (is_eq r) (Some b.1) (property_value B k)) h.0 ∙ find_none k B h.1

-- `seen` is the same list, as a search had it
pub none_found : (es seen : PropertyList) → seen ≡ es → (name : List ℕ) (i : ℕ) → IsBetween name (take i seen) (drop i seen) → None ≡ property_value es name
none_found es seen same name i between =
    sym (ap (λ l. property_value l name) (sym same ∙ sym (take-append-drop i seen)) ∙ find_past name (take i seen) (drop i seen) between.above
    ∙ find_none name (drop i seen) between.below)

value_at : (es : PropertyList) (name : List ℕ) (i : ℕ) (e : List ℕ × List ℕ) → slice_get es i ≡ Some e → by_bytes name e.0 ≡ Equal
    → IsBetween name (take i es) (drop (i + 1) es) → Some e.1 ≡ property_value es name
value_at es name i e is at between =
    sym (ap (λ l. property_value l name) (split_at es i e is) ∙ find_past name (take i es) (e ∷ drop (i + 1) es) between.above
    ∙ ap (λ r. cond (is_eq r) (Some e.1) (property_value (drop (i + 1) es) name)) at)

pub one_found : (es seen : PropertyList) → seen ≡ es → (name : List ℕ) (i : ℕ) (e : List ℕ × List ℕ) → e ≡ get_or es i e
    → IsSomeAnd (slice_get seen i) (λ p. by_bytes name p.0 ≡ Equal) → IsBetween name (take i seen) (drop (i + 1) seen) → Some e.1 ≡ property_value es name
one_found es seen same name i e read_is at between =
    let found = subst (λ l. IsSomeAnd (slice_get l i) (λ p. by_bytes name p.0 ≡ Equal)) same at in
    let is = read es i e (within es i _ found) read_is in
    value_at es name i e is (of_some _ e (λ p. by_bytes name p.0 ≡ Equal) is found) (subst (λ l. IsBetween name (take i l) (drop (i + 1) l)) same between)

-- ---- one row more

put_past : (k v : List ℕ) (A B : PropertyList) → Above k A → with_property (A ++ B) k v ≡ A ++ with_property B k v
put_past k v [] B h = refl
put_past k v (a ∷ A) B h =
    ap (λ r. match_ordering r ((k, v) ∷ a ∷ (A ++ B)) ((a.0, v) ∷ (A ++ B)) (a ∷ with_property (A ++ B) k v)) h.0
    ∙ ap (λ l. a ∷ l) (put_past k v A B h.1)

put_front : (k v : List ℕ) (B : PropertyList) → Below k B → with_property B k v ≡ (k, v) ∷ B
put_front k v [] h = refl
put_front k v (b ∷ B) h = ap (λ r. match_ordering r ((k, v) ∷ b ∷ B) ((b.0, v) ∷ B) (b ∷ with_property B k v)) h.0

new_there : (es : PropertyList) (name v : List ℕ) (i : ℕ) → IsBetween name (take i es) (drop i es) → insert es i (name, v) ≡ with_property es name v
new_there es name v i between =
    sym (ap (λ l. with_property l name v) (sym (take-append-drop i es)) ∙ put_past name v (take i es) (drop i es) between.above
    ∙ ap (λ l. take i es ++ l) (put_front name v (drop i es) between.below))

pub put_new : (es seen : PropertyList) → seen ≡ es → (name v : List ℕ) (i : ℕ) → IsBetween name (take i seen) (drop i seen) → insert es i (name, v) ≡ with_property es name v
put_new es seen same name v i between = new_there es name v i (subst (λ l. IsBetween name (take i l) (drop i l)) same between)

found_there : (es : PropertyList) (name v : List ℕ) (i : ℕ) → IsSomeAnd (slice_get es i) (λ e. by_bytes name e.0 ≡ Equal) → IsBetween name (take i es) (drop (i + 1) es)
    → slice_set es i (name, v) ≡ with_property es name v
found_there es name v i at between = by (slice_get es i) refl at
  where
    by : (o : Option (List ℕ × List ℕ)) → slice_get es i ≡ o → IsSomeAnd o (λ e. by_bytes name e.0 ≡ Equal) → slice_set es i (name, v) ≡ with_property es name v
    by None is h = absurd h
    by (Some e) is h =
        set_at es i e (name, v) is
        ∙ sym (ap (λ l. with_property l name v) (split_at es i e is) ∙ put_past name v (take i es) (e ∷ drop (i + 1) es) between.above
        ∙ ap (λ r. take i es ++ match_ordering r ((name, v) ∷ e ∷ drop (i + 1) es) ((e.0, v) ∷ drop (i + 1) es) (e ∷ with_property (drop (i + 1) es) name v)) h
        ∙ ap (λ n. take i es ++ (n, v) ∷ drop (i + 1) es) (sym (same_name name e.0 h)))

pub put_found : (es seen : PropertyList) → seen ≡ es → (name v : List ℕ) (i : ℕ) → IsSomeAnd (slice_get seen i) (λ e. by_bytes name e.0 ≡ Equal) → IsBetween name (take i seen) (drop (i + 1) seen)
    → slice_set es i (name, v) ≡ with_property es name v
put_found es seen same name v i at between =
    found_there es name v i (subst (λ l. IsSomeAnd (slice_get l i) (λ e. by_bytes name e.0 ≡ Equal)) same at) (subst (λ l. IsBetween name (take i l) (drop (i + 1) l)) same between)

is_put : (k v : List ℕ) (es : PropertyList) → put by_bytes k v es ≡ with_property es k v
is_put k v [] = refl
is_put k v (e ∷ es) =
    elim (by_bytes k e.0) as (λ r. by_order r ((k, v) ∷ e ∷ es) ((e.0, v) ∷ es) (e ∷ put by_bytes k v es) ≡ match_ordering r ((k, v) ∷ e ∷ es) ((e.0, v) ∷ es) (e ∷ with_property es k v)) [
      | Less ↦ refl
      | Equal ↦ refl
      | Greater ↦ ap (λ l. e ∷ l) (is_put k v es)
    ]

pub order_put : (es : PropertyList) (name v : List ℕ) → AreInOrder es → AreInOrder (with_property es name v)
order_put es name v h = subst AreInOrder (is_put name v es) (is_sorted-put by_bytes total name v es h)

-- ---- the row after the first ones

after_those : (es : PropertyList) → AreInOrder es → (i : ℕ) (e : List ℕ × List ℕ) → slice_get es i ≡ Some e → with_property (take i es) e.0 e.1 ≡ take (i + 1) es
after_those es order i e is =
    ap (λ l. with_property l e.0 e.1) (sym (append-nil (take i es)))
    ∙ put_past e.0 e.1 (take i es) [] (above_here es order e.0 i e is (ap is_lt (tied_itself total e.0))) ∙ sym (take_at es i e is)

-- `front` is what is copied so far
pub put_next : (es : PropertyList) → AreInOrder es → (i : ℕ) (e : List ℕ × List ℕ) → slice_get es i ≡ Some e → (front : PropertyList) → front ≡ take i es
    → (k v : List ℕ) → k ≡ e.0 → v ≡ e.1 → with_property front k v ≡ take (i + 1) es
put_next es order i e is front so_far k v same_k same_v =
    (λ j. with_property (so_far j) (same_k j) (same_v j)) ∙ after_those es order i e is

-- ---- one row less

gone_past : (k : List ℕ) (A B : PropertyList) → Above k A → without_property (A ++ B) k ≡ A ++ without_property B k
gone_past k [] B h = refl
gone_past k (a ∷ A) B h =
    ap (λ r. cond (is_eq r) (A ++ B) (a ∷ without_property (A ++ B) k)) h.0 ∙ ap (λ l. a ∷ l) (gone_past k A B h.1)

none_gone : (k : List ℕ) (B : PropertyList) → Below k B → without_property B k ≡ B
none_gone k [] h = refl
none_gone k (b ∷ B) h = ap (λ r. cond (is_eq r) B (b ∷ without_property B k)) h.0 ∙ ap (λ l. b ∷ l) (none_gone k B h.1)

kept_there : (es : PropertyList) (name : List ℕ) (i : ℕ) → IsBetween name (take i es) (drop i es) → es ≡ without_property es name
kept_there es name i between =
    sym (ap (λ l. without_property l name) (sym (take-append-drop i es)) ∙ gone_past name (take i es) (drop i es) between.above
    ∙ ap (λ l. take i es ++ l) (none_gone name (drop i es) between.below) ∙ take-append-drop i es)

pub none_there : (es seen : PropertyList) → seen ≡ es → (name : List ℕ) (i : ℕ) → IsBetween name (take i seen) (drop i seen) → es ≡ without_property es name
none_there es seen same name i between = kept_there es name i (subst (λ l. IsBetween name (take i l) (drop i l)) same between)

gone_there : (es : PropertyList) (name : List ℕ) (i : ℕ) → IsSomeAnd (slice_get es i) (λ e. by_bytes name e.0 ≡ Equal) → IsBetween name (take i es) (drop (i + 1) es)
    → remove es i ≡ without_property es name
gone_there es name i at between = by (slice_get es i) refl at
  where
    by : (o : Option (List ℕ × List ℕ)) → slice_get es i ≡ o → IsSomeAnd o (λ e. by_bytes name e.0 ≡ Equal) → remove es i ≡ without_property es name
    by None is h = absurd h
    by (Some e) is h =
        remove_is es i
        ∙ sym (ap (λ l. without_property l name) (split_at es i e is) ∙ gone_past name (take i es) (e ∷ drop (i + 1) es) between.above
        ∙ ap (λ r. take i es ++ cond (is_eq r) (drop (i + 1) es) (e ∷ without_property (drop (i + 1) es) name)) h)

pub one_gone : (es seen : PropertyList) → seen ≡ es → (name : List ℕ) (i : ℕ) → IsSomeAnd (slice_get seen i) (λ e. by_bytes name e.0 ≡ Equal) → IsBetween name (take i seen) (drop (i + 1) seen)
    → remove es i ≡ without_property es name
one_gone es seen same name i at between =
    gone_there es name i (subst (λ l. IsSomeAnd (slice_get l i) (λ e. by_bytes name e.0 ≡ Equal)) same at) (subst (λ l. IsBetween name (take i l) (drop (i + 1) l)) same between)

below_gone : (x k : List ℕ) (es : PropertyList) → T (below_all by_bytes x es) → T (below_all by_bytes x (without_property es k))
below_gone x k [] h = tt
below_gone x k (e ∷ es) h =
    elim (is_at (by_bytes k) e.0) as (λ b. T (below_all by_bytes x (cond b es (e ∷ without_property es k)))) [
      | true ↦ second _ _ h
      | false ↦ both _ _ (first _ _ h) (below_gone x k es (second _ _ h))
    ]

pub order_gone : (es : PropertyList) (name : List ℕ) → AreInOrder es → AreInOrder (without_property es name)
order_gone [] name h = tt
order_gone (e ∷ es) name h =
    elim (is_at (by_bytes name) e.0) as (λ b. AreInOrder (cond b es (e ∷ without_property es name))) [
      | true ↦ second _ _ h
      | false ↦ both _ _ (below_gone e.0 name es (first _ _ h)) (order_gone es name (second _ _ h))
    ]
