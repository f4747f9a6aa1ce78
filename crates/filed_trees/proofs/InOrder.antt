-- Changes put one after another are in the order of their paths.
use Rattle.std.proofs.Common.{◌≡◌, ◌+◌, ◌<◌, Bool, true, false, [], ◌∷◌, ◌++◌, Option, Some, None, length, get_or, ℕ, refl, sym, ap, subst, ◌∙◌, arith}
use Rattle.std.proofs.{lemmas.Bool.false≢true, lemmas.List.{append-nil, append_assoc, get_or-map, map-append}, lemmas.Fn.always_returns_same}
use Rattle.std.proofs.lemmas.List.Sorted.{Contains-permutation, IsPermutation-sym, IsPermutation-map, IsPermutation-refl, ranks_by}
use Rattle.std.proofs.{lemmas.Map.Entries.{length-keys_of, lookup_tail}, lemmas.Map.Made.is_some-lookup}
use Rattle.std.proofs.{lemmas.Map.Views.{Contains-from_lookup, lookup-from_Contains}, lemmas.Map.Keys.{IsDistinct-from_sorted, IsDistinct-head}}
use Rattle.std.proofs.lemmas.Map.Keys.{IsDistinct-tail, IsDistinct-push, IsDistinct-IsPermutation, Less-from_sorted, apart_from_distinct}
use Rattle.std.proofs.lemmas.Map.Keys.{sorted_from_all_adjacent}
use Rattle.std.specs.{BTreeMap.{insert_entry, is_at}, Cmp.eq_by_cmp_equiv, FinMap.Entries.by_order, Prelude.{is_some, IsSome}}
use Rattle.std.specs.{FinMap.{entries, entries-insert, find, from_entries, from_entries_push, get-from_entries, put}, Bool.Decides}
use Rattle.std.specs.List.{AllByRecursion, IsAllAdjacentAnswer, IsDistinct, list_any}
use Rattle.std.specs.{List.Sorted.{IsPermutation, IsSortedBy, IsSortedByClosure, IsStrictlySortedBy}, Map.{keys_of, lookup}, Fn.Called}
use Rattle.std.specs.{Ordering.{eq_by_cmp, is_eq, is_lt, match_ordering, ordering_reverse}, declared.cmp.Ordering.Ordering}
use Rattle.std.specs.declared.cmp.Ordering.TheVariants.{Less, Equal, Greater}
use denote.Param.Members.{Mut}
use denote.Ref.{Bor}
use Rattle.svnpath.specs.{PathLaws.at_is, Paths.{path_cmp, path_cmp-IsAntisymmetric, path_cmp_total, PathValue}}
use Rattle.repo_api.specs.{StateLaws.{entries_of, get_entries, get_path, same_changes}, declared.change.Change.Change}
use Rattle.revision_data.specs.Found.{found}
use Rattle.fsfs_text.specs.Maybe.{◌>>=◌}
use Rattle.filed_trees.specs.Changes.{ChangeRows, with_new, with_rows}

-- no two of the changes are of one path
abbrev pub AreApart : ChangeRows → Type 0
AreApart rows = IsDistinct (eq_by_cmp path_cmp) (keys_of rows)

-- the changes in the order of their paths, of two of one path the first
abbrev map_of : ChangeRows → ChangeRows
map_of rows = entries (from_entries {R = path_cmp} rows)

put_is : (rows : ChangeRows) (p : PathValue × Change) → insert_entry path_cmp rows p.0 p.1 ≡ put path_cmp p.0 p.1 rows
put_is [] p = refl
put_is (e ∷ rows) p = by (path_cmp p.0 e.0) (put_is rows p)
  where
    by : (o : Ordering) → insert_entry path_cmp rows p.0 p.1 ≡ put path_cmp p.0 p.1 rows
        → match_ordering o (p ∷ e ∷ rows) ((e.0, p.1) ∷ rows) (e ∷ insert_entry path_cmp rows p.0 p.1)
        ≡ by_order o (p ∷ e ∷ rows) ((e.0, p.1) ∷ rows) (e ∷ put path_cmp p.0 p.1 rows)
    by Less rest = refl
    by Equal rest = refl
    by Greater rest = ap (λ l. e ∷ l) rest

nothing_yet : map_of [] ≡ []
unfolding IsStrictlySortedBy
nothing_yet = entries_of {X = Change} [] tt

-- a change at a path that none of those before has goes to its place
one_put : (done : ChangeRows) (p : PathValue × Change) (more : ChangeRows) → lookup (is_at (path_cmp p.0)) done ≡ None
    → with_rows (map_of done) (p ∷ more) ≡ with_rows (map_of (done ++ p ∷ [])) more
one_put done p more new =
    let rows = map_of done in
    let none : found rows p.0 ≡ None = sym (get_entries (from_entries done) p.0) ∙ get_path done p.0 ∙ new in
    let unfound : find path_cmp p.0 done ≡ None = sym (get-from_entries path_cmp_total done p.0) ∙ get_path done p.0 ∙ new in
    ap (λ o. with_new rows p o >>= λ put_so_far. with_rows put_so_far more) none
    ∙ ap (λ l. with_rows l more) (put_is rows p ∙ sym (entries-insert path_cmp_total (from_entries done) p.0 p.1)
    ∙ ap entries (sym (from_entries_push path_cmp_total path_cmp-IsAntisymmetric done p.0 p.1 unfound)))

-- ---- where no two are of one path

at_key : (P : PathValue → Type 0) (done : ChangeRows) (p : PathValue × Change) (more : ChangeRows)
    → AllByRecursion P (keys_of (done ++ p ∷ more)) → P p.0
at_key P [] p more all = all.0
at_key P (e ∷ done) p more all = at_key P done p more all.1

new_key : (done : ChangeRows) (p : PathValue × Change) (more : ChangeRows) → AreApart (done ++ p ∷ more)
    → lookup (is_at (path_cmp p.0)) done ≡ None
new_key [] p more apart = refl
new_key (e ∷ done) p more apart =
    let is = eq_by_cmp path_cmp in
    let differs : is e.0 p.0 ≡ false = at_key (λ q. is e.0 q ≡ false) done p more (IsDistinct-head is e.0 (keys_of (done ++ p ∷ more)) apart) in
    lookup_tail (is_at (path_cmp p.0)) e done ((eq_by_cmp_equiv path_cmp_total).symm p.0 e.0 ∙ differs)
    ∙ new_key done p more (IsDistinct-tail is e.0 (keys_of (done ++ p ∷ more)) apart)

all_put : (done more : ChangeRows) → AreApart (done ++ more) → with_rows (map_of done) more ≡ Some (map_of (done ++ more))
all_put done [] apart = ap (λ l. Some (map_of l)) (sym (append-nil done))
all_put done (p ∷ more) apart =
    one_put done p more (new_key done p more apart)
    ∙ all_put (done ++ p ∷ []) more (subst AreApart (sym (append_assoc done (p ∷ []) more)) apart)
    ∙ ap (λ l. Some (map_of l)) (append_assoc done (p ∷ []) more)

-- ---- a look-up finds the same in whatever order the changes stand

module _ (rows others : ChangeRows) (moved : IsPermutation rows others) (apart : AreApart rows) where
  still_apart : AreApart others
  still_apart =
      IsDistinct-IsPermutation (eq_by_cmp path_cmp) (eq_by_cmp_equiv path_cmp_total).symm
      (keys_of rows) (keys_of others) (IsPermutation-map (λ e. e.0) rows others moved) apart

  module _ (q : PathValue) where
    there : (c : Change) → found rows q ≡ Some c → found others q ≡ Some c
    there c at =
        lookup-from_Contains (eq_by_cmp_equiv path_cmp_total) q c others still_apart
        (Contains-permutation rows others (q, c) moved (Contains-from_lookup at_is q c rows at))

    back : (c : Change) → found others q ≡ Some c → found rows q ≡ Some c
    back c at =
        lookup-from_Contains (eq_by_cmp_equiv path_cmp_total) q c rows apart
        (Contains-permutation others rows (q, c) (IsPermutation-sym rows others moved) (Contains-from_lookup at_is q c others at))

    found_same : found rows q ≡ found others q
    found_same = by (found rows q) (found others q) refl refl
      where
        by : (o p : Option Change) → found rows q ≡ o → found others q ≡ p → o ≡ p
        by None None in_rows in_others = refl
        by None (Some c) in_rows in_others = sym in_rows ∙ back c in_others
        by (Some c) p in_rows in_others = sym (there c in_rows) ∙ in_others

-- changes whose order has each path after the one before are those that others put in order
pub in_order : (rows sorted : ChangeRows) → IsPermutation rows sorted → IsStrictlySortedBy path_cmp (keys_of sorted)
    → with_rows [] rows ≡ Some sorted
in_order rows sorted moved rise =
    let apart : AreApart sorted = IsDistinct-from_sorted path_cmp (keys_of sorted) rise in
    let back = IsPermutation-sym rows sorted moved in
    ap (λ l. with_rows l rows) (sym nothing_yet)
    ∙ all_put [] rows (still_apart sorted rows back apart)
    ∙ ap Some (ap entries (same_changes (from_entries rows) (from_entries sorted)
    (λ q. get_path rows q ∙ sym (found_same sorted rows back apart q) ∙ sym (get_path sorted q)))
    ∙ entries_of sorted rise)

pub are_in_order : (rows : ChangeRows) → IsStrictlySortedBy path_cmp (keys_of rows) → with_rows [] rows ≡ Some rows
are_in_order rows rise = in_order rows rows (IsPermutation-refl rows) rise

-- ---- and where they can be put, no two are of one path

apart_from : (done more : ChangeRows) → AreApart done → IsSome (with_rows (map_of done) more) → AreApart (done ++ more)
apart_from done [] apart can = subst AreApart (sym (append-nil done)) apart
apart_from done (p ∷ more) apart can = by (found (map_of done) p.0) refl (apart_from (done ++ p ∷ []) more)
  where
    by : (o : Option Change) → found (map_of done) p.0 ≡ o
        → (AreApart (done ++ p ∷ []) → IsSome (with_rows (map_of (done ++ p ∷ [])) more) → AreApart ((done ++ p ∷ []) ++ more))
        → AreApart (done ++ p ∷ more)
    by (Some c) is rest = absurd (false≢true (ap (λ o. is_some (with_new (map_of done) p o >>= λ rows. with_rows rows more)) (sym is) ∙ can))
    by None is rest =
        let new : lookup (is_at (path_cmp p.0)) done ≡ None = sym (get_path done p.0) ∙ get_entries (from_entries done) p.0 ∙ is in
        let others : list_any (eq_by_cmp path_cmp p.0) (keys_of done) ≡ false = sym (is_some-lookup (is_at (path_cmp p.0)) done) ∙ ap is_some new in
        subst AreApart (append_assoc done (p ∷ []) more)
        (rest
        (subst (IsDistinct (eq_by_cmp path_cmp)) (sym (map-append (λ (e : PathValue × Change). e.0) done (p ∷ [])))
        (IsDistinct-push (eq_by_cmp_equiv path_cmp_total) (keys_of done) p.0 apart others))
        (ap is_some (sym (one_put done p more new)) ∙ can))

pub apart_where_put : (rows : ChangeRows) → IsSome (with_rows [] rows) → AreApart rows
unfolding IsDistinct
apart_where_put rows can = apart_from [] rows tt (ap (λ l. is_some (with_rows l rows)) nothing_yet ∙ can)

less_from : (o : Ordering) → is_lt (ordering_reverse o) ≡ false → is_eq o ≡ false → o ≡ Less
less_from Less below apart = refl
less_from Equal below apart = absurd (false≢true (sym apart))
less_from Greater below apart = absurd (false≢true (sym below))

-- then each path is after the one before where they are sorted
rise : (rows : ChangeRows) → IsSortedBy (λ x y. is_lt (path_cmp x.0 y.0)) rows → AreApart rows → IsStrictlySortedBy path_cmp (keys_of rows)
unfolding IsStrictlySortedBy
rise [] sorted apart = tt
rise (e ∷ rows) sorted apart =
    let all = e ∷ rows in
    sorted_from_all_adjacent path_cmp_total (keys_of all) e.0 (λ k within.
    let here : k + 1 < length all = omega (arith, within, length-keys_of all) in
    let x = get_or (keys_of all) k e.0 in
    let y = get_or (keys_of all) (k + 1) e.0 in
    let first = get_or all k e in
    let second = get_or all (k + 1) e in
    let x_is : x ≡ first.0 = get_or-map (λ c. c.0) all k e e.0 (omega (arith, here)) in
    let y_is : y ≡ second.0 = get_or-map (λ c. c.0) all (k + 1) e e.0 here in
    let same : is_lt (path_cmp y x) ≡ is_lt (path_cmp second.0 first.0) = λ i. is_lt (path_cmp (y_is i) (x_is i)) in
    less_from (path_cmp x y)
    (ap is_lt (sym (path_cmp_total.antisymm y x)) ∙ same ∙ sorted k e (omega arith) here)
    (apart_from_distinct (eq_by_cmp path_cmp) (keys_of all) k (k + 1) e.0 apart (omega arith) within))

-- what a sort ensures
pub sorted_rise : {F : Type 0} {g : Mut F (Bor (PathValue × Change) × (Bor (PathValue × Change) × Unit {0})) Ordering} {f : F}
    (rows sorted : ChangeRows) → IsPermutation rows sorted → IsSortedByClosure g f sorted
    → ((a : Bor (PathValue × Change) × (Bor (PathValue × Change) × Unit {0})) (o : Ordering) (f' : F) → Called g f a o f'
    → (o ≡ path_cmp a.0.now.0 a.1.0.now.0) × (f' ≡ f))
    → IsSome (with_rows [] rows) → IsStrictlySortedBy path_cmp (keys_of sorted)
sorted_rise {F} {g} {f} rows sorted moved up answers can =
    let lt : PathValue × Change → PathValue × Change → Bool = λ x y. is_lt (path_cmp x.0 y.0) in
    let answers_so = always_returns_same g (λ a o. is_lt o ≡ lt a.0.now a.1.0.now) f (λ a o f' k. (ap is_lt (answers a o f' k).0, (answers a o f' k).1)) in
    rise sorted (up lt (ranks_by path_cmp_total (λ (x : PathValue × Change). x.0)) answers_so) (still_apart rows sorted moved (apart_where_put rows can))

is_less : (o : Ordering) → is_lt o ≡ true → o ≡ Less
is_less Less below = refl
is_less Equal below = absurd (false≢true below)
is_less Greater below = absurd (false≢true below)

-- two paths side by side are the paths of the changes there
side_by_side : (rows : ChangeRows) (e : PathValue × Change) (k : ℕ) → k + 1 < length rows
    → is_lt (path_cmp (get_or (keys_of rows) k e.0) (get_or (keys_of rows) (k + 1) e.0))
    ≡ is_lt (path_cmp (get_or rows k e).0 (get_or rows (k + 1) e).0)
side_by_side rows e k here =
    let x_is : get_or (keys_of rows) k e.0 ≡ (get_or rows k e).0 = get_or-map (λ c. c.0) rows k e e.0 (omega (arith, here)) in
    let y_is : get_or (keys_of rows) (k + 1) e.0 ≡ (get_or rows (k + 1) e).0 = get_or-map (λ c. c.0) rows (k + 1) e e.0 here in
    λ i. is_lt (path_cmp (x_is i) (y_is i))

-- whether each is before the next is whether each is before those after it
pub rising : (rows : ChangeRows) (r : Bool) → IsAllAdjacentAnswer (λ x y b. b ≡ is_lt (path_cmp x.0 y.0)) rows r
    → Decides r (IsStrictlySortedBy path_cmp (keys_of rows))
unfolding IsStrictlySortedBy
rising [] true each = (λ is. tt, λ up. refl)
rising [] false one = absurd (omega (arith, one.1))
rising (e ∷ rows) true each = (
  λ is. sorted_from_all_adjacent path_cmp_total (keys_of (e ∷ rows)) e.0 (λ k within.
      let here : k + 1 < length (e ∷ rows) = omega (arith, within, length-keys_of (e ∷ rows)) in
      is_less (path_cmp (get_or (keys_of (e ∷ rows)) k e.0) (get_or (keys_of (e ∷ rows)) (k + 1) e.0))
      (side_by_side (e ∷ rows) e k here ∙ sym (each k e here))),
  λ up. refl,
)
rising (e ∷ rows) false one = (
  λ is. absurd (false≢true is),
  λ up.
      let here : one.0 + 1 < length (e ∷ rows) = one.1 in
      absurd (false≢true (one.2 e
      ∙ sym (side_by_side (e ∷ rows) e one.0 here)
      ∙ ap is_lt (Less-from_sorted path_cmp (keys_of (e ∷ rows)) one.0 (one.0 + 1) e.0 up (omega arith) (omega (arith, here, length-keys_of (e ∷ rows)))))),
)
