-- A map's entries are what it has.
use Rattle.std.proofs.{Common.{◌≡◌, ◌&&◌, Bool, true, false, List, [], ◌∷◌, Some, refl, sym, ◌∙◌}, lemmas.Bool.false≢true}
use Rattle.std.proofs.{lemmas.Map.Keys.IsDistinct-from_sorted, lemmas.Map.Views.{Contains-from_lookup, lookup-from_Contains}}
use Rattle.std.specs.{Cmp.eq_by_cmp_equiv, FinMap.{get, entries, entries_sorted}, FinMap.Entries.{is_sorted, below_all}, List.AllByRecursion}
use Rattle.std.specs.{List.Sorted.IsStrictlySortedBy, Map.keys_of, Ordering.is_lt, Prelude.{T, Contains}, declared.cmp.Ordering.Ordering}
use Rattle.std.specs.declared.cmp.Ordering.TheVariants.{Less, Equal, Greater}
use Rattle.svnpath.specs.{PathLaws.at_is, Paths.{path_cmp, path_cmp_total, PathValue}}
use Rattle.repo_api.specs.{Histories.Changed, StateLaws.get_entries, States.ChangeMap, declared.change.Change.Change}

is_true : (b : Bool) → T b → b ≡ true
is_true true h = refl
is_true false h = absurd h

both_true : (a b : Bool) → (a && b) ≡ true → (a ≡ true) × (b ≡ true)
both_true true b h = (refl, h)
both_true false b h = absurd (false≢true h)

is_less : (o : Ordering) → is_lt o ≡ true → o ≡ Less
is_less Less h = refl
is_less Equal h = absurd (false≢true h)
is_less Greater h = absurd (false≢true h)

below_keys : (p : PathValue) (es : List Changed) → below_all path_cmp p es ≡ true → AllByRecursion (λ k. path_cmp p k ≡ Less) (keys_of es)
below_keys p [] h = tt
below_keys p (e ∷ es) h =
    let both = both_true (is_lt (path_cmp p e.0)) (below_all path_cmp p es) h in
    (is_less (path_cmp p e.0) both.0, below_keys p es both.1)

sorted_keys : (es : List Changed) → is_sorted path_cmp es ≡ true → IsStrictlySortedBy path_cmp (keys_of es)
unfolding IsStrictlySortedBy
sorted_keys [] h = tt
sorted_keys (e ∷ es) h =
    let both = both_true (below_all path_cmp e.0 es) (is_sorted path_cmp es) h in
    (below_keys e.0 es both.0, sorted_keys es both.1)

pub listed_is : (m : ChangeMap) (e : Changed) → Contains (entries m) e → get m e.0 ≡ Some e.1
listed_is m e listed =
    get_entries m e.0
    ∙ lookup-from_Contains (eq_by_cmp_equiv path_cmp_total) e.0 e.1 (entries m)
    (IsDistinct-from_sorted path_cmp (keys_of (entries m)) (sorted_keys (entries m) (is_true (is_sorted path_cmp (entries m)) (entries_sorted m)))) listed

pub is_listed : (m : ChangeMap) (p : PathValue) (c : Change) → get m p ≡ Some c → Contains (entries m) (p, c)
is_listed m p c is = Contains-from_lookup at_is p c (entries m) (sym (get_entries m p) ∙ is)
