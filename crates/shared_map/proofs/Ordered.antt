-- Entries in order, around the place of a name.
use Rattle.std.proofs.{Common.{◌≡◌, Bool, true, false, cond, not, List, [], ◌∷◌, ◌++◌, Some, None, refl, sym, ap, ◌∙◌}, lemmas.Bool.false≢true}
use Rattle.std.specs.{Prelude.{T, ◌&&◌}, Cmp.{IsTotalOrder, alike_right}, FinMap.Entries.{by_order, put, where_key, find, below_all, is_sorted}}
use Rattle.std.specs.{List.AllByRecursion, Ordering.{eq_by_cmp, is_eq, is_lt, ordering_reverse}, declared.cmp.Ordering.Ordering}
use Rattle.std.specs.declared.cmp.Ordering.TheVariants.{Less, Equal, Greater}

first : (a b : Bool) → T (a && b) → T a
first true b p = tt
first false b p = p

second : (a b : Bool) → T (a && b) → T b
second true b p = p
second false b p = absurd p

both : (a b : Bool) → T a → T b → T (a && b)
both true true p q = tt
both true false p q = q
both false b p q = p

is_less : (r : Ordering) → T (is_lt r) → r ≡ Less
is_less Less p = refl
is_less Equal p = absurd p
is_less Greater p = absurd p

pub all_append : {X : Type 0} (P : X → Type 0) (A B : List X) → AllByRecursion P A → AllByRecursion P B → AllByRecursion P (A ++ B)
all_append P [] B p q = q
all_append P (a ∷ A) B p q = (p.0, all_append P A B p.1 q)

pub all_left : {X : Type 0} (P : X → Type 0) (A B : List X) → AllByRecursion P (A ++ B) → AllByRecursion P A
all_left P [] B p = tt
all_left P (a ∷ A) B p = (p.0, all_left P A B p.1)

pub all_right : {X : Type 0} (P : X → Type 0) (A B : List X) → AllByRecursion P (A ++ B) → AllByRecursion P B
all_right P [] B p = p
all_right P (a ∷ A) B p = all_right P A B p.1

module _ {K : Type 0} (R : K → K → Ordering) (o : IsTotalOrder R) where
  less_then : (a e k : K) → R a e ≡ Less → is_lt (R k e) ≡ false → R k a ≡ Greater
  less_then a e k lt at = by (R k e) refl at
    where
      by : (r : Ordering) → R k e ≡ r → is_lt r ≡ false → R k a ≡ Greater
      by Less is h = absurd (false≢true (sym h))
      by Equal is h = o.antisymm k a ∙ ap ordering_reverse (alike_right o k e a is ∙ lt)
      by Greater is h = o.antisymm k a ∙ ap ordering_reverse (o.trans a e k lt (o.antisymm e k ∙ ap ordering_reverse is))

module _ {K X : Type 0} (R : K → K → Ordering) (o : IsTotalOrder R) where
  abbrev pub Above : K → List (K × X) → Type 0
  Above k es = AllByRecursion (λ e. R k e.0 ≡ Greater) es

  abbrev pub Below : K → List (K × X) → Type 0
  Below k es = AllByRecursion (λ e. R k e.0 ≡ Less) es

  -- ---- what the order says

  below_at : (x : K) (A : List (K × X)) (e : K × X) (B : List (K × X)) → T (below_all R x (A ++ e ∷ B)) → R x e.0 ≡ Less
  below_at x [] e B h = is_less _ (first _ _ h)
  below_at x (a ∷ A) e B h = below_at x A e B (second _ _ h)

  pub above : (k : K) (A : List (K × X)) (e : K × X) (B : List (K × X)) → T (is_sorted R (A ++ e ∷ B)) → is_lt (R k e.0) ≡ false → Above k A
  above k [] e B h at = tt
  above k (a ∷ A) e B h at = (less_then R o a.0 e.0 k (below_at a.0 A e B (first _ _ h)) at, above k A e B (second _ _ h) at)

  below_less : (k x : K) (B : List (K × X)) → R k x ≡ Less → T (below_all R x B) → Below k B
  below_less k x [] lt h = tt
  below_less k x (b ∷ B) lt h = (o.trans k x b.0 lt (is_less _ (first _ _ h)), below_less k x B lt (second _ _ h))

  below_same : (k x : K) (B : List (K × X)) → R k x ≡ Equal → T (below_all R x B) → Below k B
  below_same k x [] at h = tt
  below_same k x (b ∷ B) at h = (o.congr k x b.0 at ∙ is_less _ (first _ _ h), below_same k x B at (second _ _ h))

  pub below : (k : K) (e : K × X) (B : List (K × X)) → T (is_sorted R (e ∷ B)) → R k e.0 ≡ Less → Below k (e ∷ B)
  below k e B h lt = (lt, below_less k e.0 B lt (first _ _ h))

  pub behind : (k : K) (e : K × X) (B : List (K × X)) → T (is_sorted R (e ∷ B)) → R k e.0 ≡ Equal → Below k B
  behind k e B h at = below_same k e.0 B at (first _ _ h)

  pub sorted_right : (A B : List (K × X)) → T (is_sorted R (A ++ B)) → T (is_sorted R B)
  sorted_right [] B h = h
  sorted_right (a ∷ A) B h = sorted_right A B (second _ _ h)

  below_left : (x : K) (A B : List (K × X)) → T (below_all R x (A ++ B)) → T (below_all R x A)
  below_left x [] B h = tt
  below_left x (a ∷ A) B h = both _ _ (first _ _ h) (below_left x A B (second _ _ h))

  pub sorted_left : (A B : List (K × X)) → T (is_sorted R (A ++ B)) → T (is_sorted R A)
  sorted_left [] B h = tt
  sorted_left (a ∷ A) B h = both _ _ (below_left a.0 A B (first _ _ h)) (sorted_left A B (second _ _ h))

  -- ---- what is found

  pub find_past : (k : K) (A B : List (K × X)) → Above k A → find R k (A ++ B) ≡ find R k B
  find_past k [] B h = refl
  find_past k (a ∷ A) B h = ap (λ r. cond (is_eq r) (Some a.1) (find R k (A ++ B))) h.0 ∙ find_past k A B h.1

  pub find_none : (k : K) (B : List (K × X)) → Below k B → find R k B ≡ None
  find_none k [] h = refl
  find_none k (b ∷ B) h = ap (λ r. cond (is_eq r) (Some b.1) (find R k B)) h.0 ∙ find_none k B h.1

  pub find_front : (k : K) (A B : List (K × X)) → Below k B → find R k (A ++ B) ≡ find R k A
  find_front k [] B h = find_none k B h
  find_front k (a ∷ A) B h = ap (cond (eq_by_cmp R k a.0) (Some a.1)) (find_front k A B h)

  pub find_at : (k : K) (A : List (K × X)) (e : K × X) (B : List (K × X)) → Above k A → R k e.0 ≡ Equal → find R k (A ++ e ∷ B) ≡ Some e.1
  find_at k A e B h at = find_past k A (e ∷ B) h ∙ ap (λ r. cond (is_eq r) (Some e.1) (find R k B)) at

  -- ---- one entry more

  pub put_past : (k : K) (v : X) (A B : List (K × X)) → Above k A → put R k v (A ++ B) ≡ A ++ put R k v B
  put_past k v [] B h = refl
  put_past k v (a ∷ A) B h =
      ap (λ r. by_order r ((k, v) ∷ a ∷ (A ++ B)) ((a.0, v) ∷ (A ++ B)) (a ∷ put R k v (A ++ B))) h.0
      ∙ ap (λ l. a ∷ l) (put_past k v A B h.1)

  pub put_front : (k : K) (v : X) (A B : List (K × X)) → Below k B → put R k v (A ++ B) ≡ put R k v A ++ B
  put_front k v [] [] h = refl
  put_front k v [] (b ∷ B) h = ap (λ r. by_order r ((k, v) ∷ b ∷ B) ((b.0, v) ∷ B) (b ∷ put R k v B)) h.0
  put_front k v (a ∷ A) B h =
      elim (R k a.0) as (λ r. by_order r ((k, v) ∷ a ∷ (A ++ B)) ((a.0, v) ∷ (A ++ B)) (a ∷ put R k v (A ++ B)) ≡ by_order r ((k, v) ∷ a ∷ A) ((a.0, v) ∷ A) (a ∷ put R k v A) ++ B) [
        | Less ↦ refl
        | Equal ↦ refl
        | Greater ↦ ap (λ l. a ∷ l) (put_front k v A B h)
      ]

  pub put_gap : (k : K) (v : X) (A B : List (K × X)) → Above k A → Below k B → put R k v (A ++ B) ≡ A ++ (k, v) ∷ B
  put_gap k v A B h g = put_past k v A B h ∙ ap (λ l. A ++ l) (put_front k v [] B g)

  pub put_at : (k : K) (v : X) (A : List (K × X)) (e : K × X) (B : List (K × X)) → Above k A → R k e.0 ≡ Equal → e.0 ≡ k → put R k v (A ++ e ∷ B) ≡ A ++ (k, v) ∷ B
  put_at k v A e B h at same =
      put_past k v A (e ∷ B) h ∙ ap (λ r. A ++ by_order r ((k, v) ∷ e ∷ B) ((e.0, v) ∷ B) (e ∷ put R k v B)) at
      ∙ ap (λ n. A ++ (n, v) ∷ B) same

  -- ---- one entry less

  abbrev pub others : K → List (K × X) → List (K × X)
  others k es = where_key R (λ n. not (eq_by_cmp R k n)) es

  pub keep_past : (k : K) (A B : List (K × X)) → Above k A → others k (A ++ B) ≡ A ++ others k B
  keep_past k [] B h = refl
  keep_past k (a ∷ A) B h =
      ap (λ r. cond (not (is_eq r)) (a ∷ others k (A ++ B)) (others k (A ++ B))) h.0 ∙ ap (λ l. a ∷ l) (keep_past k A B h.1)

  pub keep_all : (k : K) (B : List (K × X)) → Below k B → others k B ≡ B
  keep_all k [] h = refl
  keep_all k (b ∷ B) h = ap (λ r. cond (not (is_eq r)) (b ∷ others k B) (others k B)) h.0 ∙ ap (λ l. b ∷ l) (keep_all k B h.1)

  pub keep_front : (k : K) (A B : List (K × X)) → Below k B → others k (A ++ B) ≡ others k A ++ B
  keep_front k [] B h = keep_all k B h
  keep_front k (a ∷ A) B h =
      elim (not (eq_by_cmp R k a.0)) as (λ b. cond b (a ∷ others k (A ++ B)) (others k (A ++ B)) ≡ cond b (a ∷ others k A) (others k A) ++ B) [
        | true ↦ ap (λ l. a ∷ l) (keep_front k A B h)
        | false ↦ keep_front k A B h
      ]

  pub gone : (k : K) (A : List (K × X)) (e : K × X) (B : List (K × X)) → Above k A → R k e.0 ≡ Equal → Below k B → others k (A ++ e ∷ B) ≡ A ++ B
  gone k A e B h at g =
      keep_past k A (e ∷ B) h ∙ ap (λ r. A ++ cond (not (is_eq r)) (e ∷ others k B) (others k B)) at ∙ ap (λ l. A ++ l) (keep_all k B g)

  pub kept : (k : K) (A B : List (K × X)) → Above k A → Below k B → others k (A ++ B) ≡ A ++ B
  kept k A B h g = keep_past k A B h ∙ ap (λ l. A ++ l) (keep_all k B g)
