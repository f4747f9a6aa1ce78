-- A key that passes a test, where one does.
use Rattle.std.proofs.Common.{◌≡◌, Bool, true, false, cond, ◌||◌, is_some, List, [], ◌∷◌, Option, Some, None, refl, sym, ap, subst, ◌∙◌}
use Rattle.std.proofs.{lemmas.Bool.false≢true, lemmas.List.Folds.list_any-append}
use Rattle.std.specs.{List.{find, list_any}, Map.keys_of, FinMap.{FinMap, keys, from_entries}, Prelude.{Result, Ok, Err, IfOk}}
use Rattle.svnpath.specs.Paths.{path_cmp, PathValue}
use Rattle.repo_api.specs.{MergedMaps.IsConflict, States.TreeMap}
use Rattle.flat_trees.specs.Merging.{conflict_at, Finds}
use Rattle.flat_trees.proofs.Keys.{any_seen}

abbrev or_else : PathValue → Option PathValue → PathValue
or_else d None = d
or_else d (Some p) = p

-- what is found passes the test
found_passes : (f : PathValue → Bool) (ks : List PathValue) (p : PathValue) → find f ks ≡ Some p → f p ≡ true
found_passes f [] p is = absurd (false≢true (ap is_some is))
found_passes f (k ∷ ks) p is = by (f k) refl is (found_passes f ks p)
  where
    by : (b : Bool) → f k ≡ b → cond b (Some k) (find f ks) ≡ Some p → (find f ks ≡ Some p → f p ≡ true) → f p ≡ true
    by true passes is rest = subst (λ (q : PathValue). f q ≡ true) (ap (or_else k) is) passes
    by false fails is rest = rest is

-- where nothing is found none passes
none_passes : (f : PathValue → Bool) (ks : List PathValue) → find f ks ≡ None → list_any f ks ≡ false
none_passes f [] is = refl
none_passes f (k ∷ ks) is = by (f k) refl is (none_passes f ks)
  where
    by : (b : Bool) → f k ≡ b → cond b (Some k) (find f ks) ≡ None → (find f ks ≡ None → list_any f ks ≡ false) → (f k || list_any f ks) ≡ false
    by true passes is rest = absurd (false≢true (sym (ap is_some is)))
    by false fails is rest = ap (λ b. b || list_any f ks) fails ∙ rest is

-- what is found among the keys of the entries that make a map
pub finds_seen : {X : Type 0} (f : PathValue → Bool) (es : List (PathValue × X)) (m : FinMap path_cmp X) → from_entries es ≡ m
    → (o : Option PathValue) → o ≡ find f (keys_of es) → Finds f (keys m) o
finds_seen f es m is None found = sym (any_seen f es m is) ∙ none_passes f (keys_of es) (sym found)
finds_seen f es m is (Some p) found = found_passes f (keys_of es) p (sym found)

-- so it is of a copy
pub finds_copy : {E : Type 0} (f : PathValue → Bool) (ks : List PathValue) (o : Option PathValue) (copy : Result (Option PathValue) E) → Finds f ks o
    → IfOk copy (λ x. x ≡ o) → IfOk copy (Finds f ks)
finds_copy f ks o (Ok x) finds is = subst (λ (y : Option PathValue). Finds f ks y) (sym is) finds
finds_copy f ks o (Err e) finds is = tt

-- where no path of the base is in conflict, one of the transaction's is, or none at all
pub of_transaction : {E : Type 0} (base txn youngest : TreeMap) (found : Result (Option PathValue) E) → list_any (conflict_at base txn youngest) (keys base) ≡ false
    → IfOk found (Finds (conflict_at base txn youngest) (keys txn)) → IfOk found (IsConflict base txn youngest)
of_transaction base txn youngest (Ok (Some p)) none finds = finds
of_transaction base txn youngest (Ok None) none finds =
    list_any-append (conflict_at base txn youngest) (keys base) (keys txn)
    ∙ ap (λ b. b || list_any (conflict_at base txn youngest) (keys txn)) none ∙ finds
of_transaction base txn youngest (Err e) none finds = tt
