-- Changes put one after another are in the order of their paths.
use Rattle.std.proofs.{Common.{◌≡◌, false, [], ◌∷◌, ◌++◌, Option, Some, None, refl, sym, ap, subst, ◌∙◌}, lemmas.List.{append-nil, append_assoc}}
use Rattle.std.proofs.{lemmas.List.Sorted.{Contains-permutation, IsPermutation-sym, IsPermutation-map}, lemmas.Map.Entries.lookup_tail}
use Rattle.std.proofs.lemmas.Map.Views.{Contains-from_lookup, lookup-from_Contains}
use Rattle.std.proofs.lemmas.Map.Keys.{IsDistinct-from_sorted, IsDistinct-head, IsDistinct-tail, IsDistinct-IsPermutation}
use Rattle.std.specs.{BTreeMap.{insert_entry, is_at}, Cmp.eq_by_cmp_equiv, FinMap.Entries.by_order}
use Rattle.std.specs.{FinMap.{entries, entries-insert, find, from_entries, from_entries_push, get-from_entries, put}, List.{AllByRecursion, IsDistinct}}
use Rattle.std.specs.{List.Sorted.{IsPermutation, IsStrictlySortedBy}, Map.{keys_of, lookup}, Ordering.{eq_by_cmp, match_ordering}}
use Rattle.std.specs.{declared.cmp.Ordering.Ordering, declared.cmp.Ordering.TheVariants.{Less, Equal, Greater}}
use Rattle.svnpath.specs.{PathLaws.at_is, Paths.{path_cmp, path_cmp-IsAntisymmetric, path_cmp_total, PathValue}}
use Rattle.repo_api.specs.{StateLaws.{entries_of, get_entries, get_path, same_changes}, declared.change.Change.Change}
use Rattle.revision_data.specs.Found.{found}
use Rattle.fsfs_text.specs.Maybe.{◌>>=◌}
use Rattle.filed_trees.specs.Changes.{ChangeRows, with_new, with_rows}

-- no two of the changes are of one path
abbrev pub AreApart : ChangeRows → Type 0
AreApart rows = IsDistinct (eq_by_cmp path_cmp) (keys_of rows)

-- the changes in the order of their paths, of two of one path the first
abbrev map_of : ChangeRows → ChangeRows
map_of rows = entries (from_entries {R = path_cmp} rows)

put_is : (rows : ChangeRows) (p : PathValue × Change) → insert_entry path_cmp rows p.0 p.1 ≡ put path_cmp p.0 p.1 rows
put_is [] p = refl
put_is (e ∷ rows) p = by (path_cmp p.0 e.0) (put_is rows p)
  where
    by : (o : Ordering) → insert_entry path_cmp rows p.0 p.1 ≡ put path_cmp p.0 p.1 rows
        → match_ordering o (p ∷ e ∷ rows) ((e.0, p.1) ∷ rows) (e ∷ insert_entry path_cmp rows p.0 p.1)
        ≡ by_order o (p ∷ e ∷ rows) ((e.0, p.1) ∷ rows) (e ∷ put path_cmp p.0 p.1 rows)
    by Less rest = refl
    by Equal rest = refl
    by Greater rest = ap (λ l. e ∷ l) rest

nothing_yet : map_of [] ≡ []
unfolding IsStrictlySortedBy
nothing_yet = entries_of {X = Change} [] tt

-- a change at a path that none of those before has goes to its place
one_put : (done : ChangeRows) (p : PathValue × Change) (more : ChangeRows) → lookup (is_at (path_cmp p.0)) done ≡ None
    → with_rows (map_of done) (p ∷ more) ≡ with_rows (map_of (done ++ p ∷ [])) more
one_put done p more new =
    let rows = map_of done in
    let none : found rows p.0 ≡ None = sym (get_entries (from_entries done) p.0) ∙ get_path done p.0 ∙ new in
    let unfound : find path_cmp p.0 done ≡ None = sym (get-from_entries path_cmp_total done p.0) ∙ get_path done p.0 ∙ new in
    ap (λ o. with_new rows p o >>= λ put_so_far. with_rows put_so_far more) none
    ∙ ap (λ l. with_rows l more) (put_is rows p ∙ sym (entries-insert path_cmp_total (from_entries done) p.0 p.1)
    ∙ ap entries (sym (from_entries_push path_cmp_total path_cmp-IsAntisymmetric done p.0 p.1 unfound)))

-- ---- where no two are of one path

at_key : (P : PathValue → Type 0) (done : ChangeRows) (p : PathValue × Change) (more : ChangeRows)
    → AllByRecursion P (keys_of (done ++ p ∷ more)) → P p.0
at_key P [] p more all = all.0
at_key P (e ∷ done) p more all = at_key P done p more all.1

new_key : (done : ChangeRows) (p : PathValue × Change) (more : ChangeRows) → AreApart (done ++ p ∷ more)
    → lookup (is_at (path_cmp p.0)) done ≡ None
new_key [] p more apart = refl
new_key (e ∷ done) p more apart =
    let is = eq_by_cmp path_cmp in
    let differs : is e.0 p.0 ≡ false = at_key (λ q. is e.0 q ≡ false) done p more (IsDistinct-head is e.0 (keys_of (done ++ p ∷ more)) apart) in
    lookup_tail (is_at (path_cmp p.0)) e done ((eq_by_cmp_equiv path_cmp_total).symm p.0 e.0 ∙ differs)
    ∙ new_key done p more (IsDistinct-tail is e.0 (keys_of (done ++ p ∷ more)) apart)

all_put : (done more : ChangeRows) → AreApart (done ++ more) → with_rows (map_of done) more ≡ Some (map_of (done ++ more))
all_put done [] apart = ap (λ l. Some (map_of l)) (sym (append-nil done))
all_put done (p ∷ more) apart =
    one_put done p more (new_key done p more apart)
    ∙ all_put (done ++ p ∷ []) more (subst AreApart (sym (append_assoc done (p ∷ []) more)) apart)
    ∙ ap (λ l. Some (map_of l)) (append_assoc done (p ∷ []) more)

-- ---- a look-up finds the same in whatever order the changes stand

module _ (rows others : ChangeRows) (moved : IsPermutation rows others) (apart : AreApart rows) where
  still_apart : AreApart others
  still_apart =
      IsDistinct-IsPermutation (eq_by_cmp path_cmp) (eq_by_cmp_equiv path_cmp_total).symm
      (keys_of rows) (keys_of others) (IsPermutation-map (λ e. e.0) rows others moved) apart

  module _ (q : PathValue) where
    there : (c : Change) → found rows q ≡ Some c → found others q ≡ Some c
    there c at =
        lookup-from_Contains (eq_by_cmp_equiv path_cmp_total) q c others still_apart
        (Contains-permutation rows others (q, c) moved (Contains-from_lookup at_is q c rows at))

    back : (c : Change) → found others q ≡ Some c → found rows q ≡ Some c
    back c at =
        lookup-from_Contains (eq_by_cmp_equiv path_cmp_total) q c rows apart
        (Contains-permutation others rows (q, c) (IsPermutation-sym rows others moved) (Contains-from_lookup at_is q c others at))

    found_same : found rows q ≡ found others q
    found_same = by (found rows q) (found others q) refl refl
      where
        by : (o p : Option Change) → found rows q ≡ o → found others q ≡ p → o ≡ p
        by None None in_rows in_others = refl
        by None (Some c) in_rows in_others = sym in_rows ∙ back c in_others
        by (Some c) p in_rows in_others = sym (there c in_rows) ∙ in_others

-- changes whose order has each path after the one before are those that others put in order
pub in_order : (rows sorted : ChangeRows) → IsPermutation rows sorted → IsStrictlySortedBy path_cmp (keys_of sorted)
    → with_rows [] rows ≡ Some sorted
in_order rows sorted moved rise =
    let apart : AreApart sorted = IsDistinct-from_sorted path_cmp (keys_of sorted) rise in
    let back = IsPermutation-sym rows sorted moved in
    ap (λ l. with_rows l rows) (sym nothing_yet)
    ∙ all_put [] rows (still_apart sorted rows back apart)
    ∙ ap Some (ap entries (same_changes (from_entries rows) (from_entries sorted)
    (λ q. get_path rows q ∙ sym (found_same sorted rows back apart q) ∙ sym (get_path sorted q)))
    ∙ entries_of sorted rise)
