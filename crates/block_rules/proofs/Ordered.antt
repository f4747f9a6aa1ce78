-- The entries of a map stand in the order of their paths.
use Rattle.std.proofs.{Common.{◌≡◌, ◌&&◌, Bool, true, false, List, [], ◌∷◌, refl}, lemmas.Bool.false≢true}
use Rattle.std.specs.{FinMap.{FinMap, entries, entries_sorted}, FinMap.Entries.{is_sorted, below_all}, List.AllByRecursion, List.Sorted.IsStrictlySortedBy}
use Rattle.std.specs.{Map.keys_of, Ordering.is_lt, Prelude.T, declared.cmp.Ordering.Ordering, declared.cmp.Ordering.TheVariants.{Less, Equal, Greater}}
use Rattle.svnpath.specs.Paths.{path_cmp, PathValue}

is_true : (b : Bool) → T b → b ≡ true
is_true true h = refl
is_true false h = absurd h

both_true : (a b : Bool) → (a && b) ≡ true → (a ≡ true) × (b ≡ true)
both_true true b h = (refl, h)
both_true false b h = absurd (false≢true h)

is_less : (o : Ordering) → is_lt o ≡ true → o ≡ Less
is_less Less h = refl
is_less Equal h = absurd (false≢true h)
is_less Greater h = absurd (false≢true h)

below_keys : {X : Type 0} (p : PathValue) (es : List (PathValue × X)) → below_all path_cmp p es ≡ true
    → AllByRecursion (λ k. path_cmp p k ≡ Less) (keys_of es)
below_keys p [] h = tt
below_keys p (e ∷ es) h =
    let both = both_true (is_lt (path_cmp p e.0)) (below_all path_cmp p es) h in
    (is_less (path_cmp p e.0) both.0, below_keys p es both.1)

sorted_keys : {X : Type 0} (es : List (PathValue × X)) → is_sorted path_cmp es ≡ true
    → IsStrictlySortedBy path_cmp (keys_of es)
unfolding IsStrictlySortedBy
sorted_keys [] h = tt
sorted_keys (e ∷ es) h =
    let both = both_true (below_all path_cmp e.0 es) (is_sorted path_cmp es) h in
    (below_keys e.0 es both.0, sorted_keys es both.1)

pub in_order : {X : Type 0} (m : FinMap path_cmp X) → IsStrictlySortedBy path_cmp (keys_of (entries m))
in_order m = sorted_keys (entries m) (is_true (is_sorted path_cmp (entries m)) (entries_sorted m))
