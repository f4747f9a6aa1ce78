-- Items in order: one more stays so, and two lists that have the same items are one.
use Rattle.std.proofs.{Common.{◌≡◌, Bool, true, false, ◌||◌, List, [], ◌∷◌, refl, sym, ap, ◌∙◌}, lemmas.Bool.false≢true, lemmas.Cmp.tied_itself}
use Rattle.std.proofs.lemmas.Map.Keys.{sorted_head, sorted_tail}
use Rattle.std.specs.{BTreeSet.insert_key, Cmp.IsTotalOrder, List.{AllByRecursion, list_any}, List.Sorted.IsStrictlySortedBy}
use Rattle.std.specs.{Ordering.{is_eq, is_lt, match_ordering, ordering_reverse}, declared.cmp.Ordering.Ordering}
use Rattle.std.specs.declared.cmp.Ordering.TheVariants.{Less, Equal, Greater}

module _ {K : Type 0} (R : K → K → Ordering) (o : IsTotalOrder R)
    (tied : (x y : K) → R x y ≡ Equal → x ≡ y) where
  -- the item is among them
  abbrev pub has : List K → K → Bool
  has ks k = list_any (λ x. is_eq (R k x)) ks

  itself : (k : K) (ks : List K) → has (k ∷ ks) k ≡ true
  itself k ks = ap (λ r. is_eq r || has ks k) (tied_itself o k)

  before : (k : K) (ks : List K) → AllByRecursion (λ y. R k y ≡ Less) ks → has ks k ≡ false
  before k [] all = refl
  before k (x ∷ ks) all = ap (λ r. is_eq r || has ks k) all.0 ∙ before k ks all.1

  all_behind : (k x : K) (ks : List K) → R k x ≡ Less → AllByRecursion (λ y. R x y ≡ Less) ks
      → AllByRecursion (λ y. R k y ≡ Less) ks
  all_behind k x [] less all = tt
  all_behind k x (y ∷ ks) less all = (o.trans k x y less all.0, all_behind k x ks less all.1)

  -- what comes before the first is not there
  missed : (k x : K) (ks : List K) → R k x ≡ Less → IsStrictlySortedBy R (x ∷ ks)
      → has (x ∷ ks) k ≡ false
  missed k x ks less sorted = ap (λ r. is_eq r || has ks k) less
      ∙ before k ks (all_behind k x ks less (sorted_head R x ks sorted))

  turned : (r s : Ordering) → r ≡ ordering_reverse s → r ≡ Greater → s ≡ Less
  turned r Less back is = refl
  turned r Equal back is = absurd (false≢true (ap is_eq (sym is ∙ back)))
  turned r Greater back is = absurd (false≢true (ap is_lt (sym is ∙ back)))

  rest : (k x : K) (xs ys : List K) → has xs x ≡ false → has ys x ≡ false
      → (has (x ∷ xs) k ≡ has (x ∷ ys) k) → has xs k ≡ has ys k
  rest k x xs ys nx ny same = by (R k x) refl
    where
      here : R k x ≡ Equal → has xs k ≡ has ys k
      here is = ap (has xs) (tied k x is) ∙ nx ∙ sym ny ∙ ap (has ys) (sym (tied k x is))

      aside : is_eq (R k x) ≡ false → has xs k ≡ has ys k
      aside other = ap (λ b. b || has xs k) (sym other) ∙ same ∙ ap (λ b. b || has ys k) other

      by : (r : Ordering) → R k x ≡ r → has xs k ≡ has ys k
      by Less is = aside (ap is_eq is)
      by Equal is = here is
      by Greater is = aside (ap is_eq is)

  pub one_order : (xs ys : List K) → IsStrictlySortedBy R xs → IsStrictlySortedBy R ys
      → ((k : K) → has xs k ≡ has ys k) → xs ≡ ys
  one_order [] [] s t same = refl
  one_order [] (y ∷ ys) s t same = absurd (false≢true (same y ∙ itself y ys))
  one_order (x ∷ xs) [] s t same = absurd (false≢true (sym (same x) ∙ itself x xs))
  one_order (x ∷ xs) (y ∷ ys) s t same =
      by (R x y) refl (λ so. one_order xs ys (sorted_tail R x xs s) (sorted_tail R y ys t) so)
    where
      by : (r : Ordering) → R x y ≡ r → (((k : K) → has xs k ≡ has ys k) → xs ≡ ys)
          → x ∷ xs ≡ y ∷ ys
      by Less is more = absurd (false≢true (sym (missed x y ys is t) ∙ sym (same x) ∙ itself x xs))
      by Greater is more =
          absurd (false≢true
          (sym (missed y x xs (turned (R x y) (R y x) (o.antisymm x y) is) s) ∙ same y
          ∙ itself y ys))
      by Equal is more =
          let one : x ≡ y = tied x y is in
          let nx : has xs x ≡ false = before x xs (sorted_head R x xs s) in
          let ny : has ys x ≡ false = ap (has ys) one ∙ before y ys (sorted_head R y ys t) in
          let tails : xs ≡ ys =
          more (λ k. rest k x xs ys nx ny (same k ∙ ap (λ z. has (z ∷ ys) k) (sym one))) in
          λ i. one i ∷ tails i

  sorted_more : (k : K) (ks : List K) → AllByRecursion (λ y. R k y ≡ Less) ks
      → IsStrictlySortedBy R ks → IsStrictlySortedBy R (k ∷ ks)
  unfolding IsStrictlySortedBy
  sorted_more k ks above sorted = (above, sorted)

  all_inserted : (P : K → Type 0) (k : K) (ks : List K) → P k → AllByRecursion P ks
      → AllByRecursion P (insert_key R ks k)
  all_inserted P k [] here all = (here, tt)
  all_inserted P k (x ∷ xs) here all = by (R k x) (all_inserted P k xs here all.1)
    where
      by : (r : Ordering) → AllByRecursion P (insert_key R xs k)
          → AllByRecursion P (match_ordering r (k ∷ x ∷ xs) (x ∷ xs) (x ∷ insert_key R xs k))
      by Less deeper = (here, all)
      by Equal deeper = all
      by Greater deeper = (all.0, deeper)

  pub insert_sorted : (k : K) (ks : List K) → IsStrictlySortedBy R ks
      → IsStrictlySortedBy R (insert_key R ks k)
  insert_sorted k [] sorted = sorted_more k [] tt sorted
  insert_sorted k (x ∷ xs) sorted =
      by (R k x) refl (insert_sorted k xs (sorted_tail R x xs sorted))
    where
      above : AllByRecursion (λ y. R x y ≡ Less) xs
      above = sorted_head R x xs sorted

      by : (r : Ordering) → R k x ≡ r → IsStrictlySortedBy R (insert_key R xs k)
          → IsStrictlySortedBy R
          (match_ordering r (k ∷ x ∷ xs) (x ∷ xs) (x ∷ insert_key R xs k))
      by Less is deeper =
          sorted_more k (x ∷ xs) (is, all_behind k x xs is above) sorted
      by Equal is deeper = sorted
      by Greater is deeper =
          let after : R x k ≡ Less = turned (R k x) (R x k) (o.antisymm k x) is in
          sorted_more x (insert_key R xs k)
          (all_inserted (λ y. R x y ≡ Less) k xs after above) deeper
