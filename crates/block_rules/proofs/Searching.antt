-- What a search finds among entries in the order of their paths.
use Rattle.std.proofs.Common.{◌≡◌, ℕ, ◌<◌, ◌≤◌, ◌⊎◌, inl, inr, List, length, get_or, slice_get, Some, None, HoldsAt, refl, sym, ap, subst, ◌∙◌, arith}
use Rattle.std.proofs.{lemmas.Bool.cases_lt, lemmas.List.get_or-map, lemmas.Map.Entries.{length-keys_of, lookup_from_place, lookup_at_gap}}
use Rattle.std.proofs.{lemmas.Map.Keys.{IsDistinct-from_sorted, Less-from_sorted}, lemmas.Option.{get_or_from_slice_get, slice_get_within}}
use Rattle.std.specs.{Cmp.IsEquivalence, Cmp.Lexicographic.{lists_equiv, nat_list_eq_equiv}}
use Rattle.std.specs.{List.Sorted.{IsNonDecreasingBy, IsPartitionPoint, IsStrictlySortedBy}, Map.keys_of}
use Rattle.std.specs.{Ordering.{eq_by_cmp, ordering_index, ordering_reverse}, declared.cmp.Ordering.Ordering}
use Rattle.std.specs.declared.cmp.Ordering.TheVariants.{Less, Equal, Greater}
use Rattle.svnpath.specs.Paths.{path_cmp, path_cmp-IsAntisymmetric, path_cmp_total, path_ties, PathValue}
use Rattle.revision_data.specs.Found.{found}

at_most_two : (o : Ordering) → ordering_index o ≤ 2
at_most_two Less = omega arith
at_most_two Equal = omega arith
at_most_two Greater = omega arith

-- what is below another is not above where the other is compared
rises : (x y q : PathValue) → path_cmp x y ≡ Less → ordering_index (path_cmp x q) ≤ ordering_index (path_cmp y q)
rises x y q below = by (path_cmp y q) refl
  where
    by : (o : Ordering) → path_cmp y q ≡ o → ordering_index (path_cmp x q) ≤ ordering_index o
    by Greater is = at_most_two (path_cmp x q)
    by Equal is =
        let back : path_cmp q x ≡ Greater = sym (path_cmp_total.congr y q x is) ∙ path_cmp_total.antisymm y x ∙ ap ordering_reverse below in
        let less : path_cmp x q ≡ Less = path_cmp_total.antisymm x q ∙ ap ordering_reverse back in
        omega (arith, ap ordering_index less)
    by Less is =
        let less : path_cmp x q ≡ Less = path_cmp_total.trans x y q below is in
        omega (arith, ap ordering_index less)

equal_paths : IsEquivalence (eq_by_cmp path_cmp)
equal_paths = subst IsEquivalence (λ i x y. path_ties x y i) (lists_equiv nat_list_eq_equiv)

module _ {X : Type 0} (es : List (PathValue × X)) (sorted : IsStrictlySortedBy path_cmp (keys_of es)) (q : PathValue) where
  comparisons_rise : IsNonDecreasingBy (λ e. ordering_index (path_cmp e.0 q)) es
  comparisons_rise i j d le within = by (cases_lt i j)
    where
      by : (i < j) ⊎ (j ≤ i) → ordering_index (path_cmp (get_or es i d).0 q) ≤ ordering_index (path_cmp (get_or es j d).0 q)
      by (inl lt) =
          let here : i < length es = omega arith in
          let key_i : get_or (keys_of es) i d.0 ≡ (get_or es i d).0 = get_or-map (λ e. e.0) es i d d.0 here in
          let key_j : get_or (keys_of es) j d.0 ≡ (get_or es j d).0 = get_or-map (λ e. e.0) es j d d.0 within in
          let inside : j < length (keys_of es) = omega (arith, length-keys_of es) in
          rises (get_or es i d).0 (get_or es j d).0 q
          (subst (λ x. path_cmp x (get_or es j d).0 ≡ Less) key_i
          (subst (λ y. path_cmp (get_or (keys_of es) i d.0) y ≡ Less) key_j (Less-from_sorted path_cmp (keys_of es) i j d.0 sorted lt inside)))
      by (inr ge) = let same : i ≡ j = omega arith in omega (arith, ap (λ n. ordering_index (path_cmp (get_or es n d).0 q)) same)

  -- the entry where a search ended is that of the path
  pub hit : (i : ℕ) (e : PathValue × X) → HoldsAt (λ y. path_cmp y.0 q ≡ Equal) es i → slice_get es i ≡ Some e → found es q ≡ Some e.1
  hit i e equal at =
      let here : path_cmp e.0 q ≡ Equal = ap (λ (x : PathValue × X). path_cmp x.0 q) (sym (get_or_from_slice_get es i e e at)) ∙ equal e in
      let same : e.0 ≡ q = path_cmp-IsAntisymmetric e.0 q here in
      subst (λ p. found es p ≡ Some e.1) same
      (lookup_from_place equal_paths es i e.0 e.1 (IsDistinct-from_sorted path_cmp (keys_of es) sorted) at)

  -- where a search ended without an entry there is none
  pub miss : (i : ℕ) → (IsNonDecreasingBy (λ y. ordering_index (path_cmp y.0 q)) es
      → IsPartitionPoint (λ y. path_cmp y.0 q ≡ Less) (λ y. path_cmp y.0 q ≡ Greater) es i) → found es q ≡ None
  miss i parts =
      let point = parts comparisons_rise in
      lookup_at_gap path_cmp_total q es i sorted
      (λ j e below at. path_cmp_total.antisymm q e.0 ∙ ap ordering_reverse (ap (λ (x : PathValue × X). path_cmp x.0 q) (sym (get_or_from_slice_get es j e e at)) ∙ point.0 j e (omega arith) below))
      (λ e at. path_cmp_total.antisymm q e.0 ∙ ap ordering_reverse (ap (λ (x : PathValue × X). path_cmp x.0 q) (sym (get_or_from_slice_get es i e e at)) ∙ point.1 i e (omega arith) (slice_get_within es i e at)))
