-- Laws of the maps in a state, for the crates above.
use Rattle.std.proofs.{Common.{◌≡◌, true, ◌&&◌, cond, List, [], ◌∷◌, Some, refl, sym, ap, subst, ◌∙◌}, lemmas.Map.Keys.{sorted_head, sorted_tail}}
use Rattle.std.specs.{BTreeMap.is_at, List.AllByRecursion, List.Sorted.IsStrictlySortedBy, Map.{lookup, keys_of}, Ordering.is_lt, Prelude.T}
use Rattle.std.specs.declared.cmp.Ordering.TheVariants.{Less}
use Rattle.std.specs.FinMap.{FinMap, get, entries, from_entries, find, entries_sorted, get-from_entries, get-entries, same_map}
use Rattle.std.specs.FinMap.Entries.{is_sorted, below_all, same_entries}
use Rattle.svnpath.specs.Paths.{path_cmp, path_cmp-IsAntisymmetric, path_cmp_total, PathValue}
use Rattle.repo_api.specs.States.{TreeMap, ChangeMap}

-- maps that have the same at each path are one
pub same_tree : (m n : TreeMap) → ((p : PathValue) → get m p ≡ get n p) → m ≡ n
same_tree = same_map path_cmp_total path_cmp-IsAntisymmetric

pub same_changes : (m n : ChangeMap) → ((p : PathValue) → get m p ≡ get n p) → m ≡ n
same_changes = same_map path_cmp_total path_cmp-IsAntisymmetric

find_path : {X : Type 0} (es : List (PathValue × X)) (p : PathValue) → find path_cmp p es ≡ lookup (is_at (path_cmp p)) es
find_path [] p = refl
find_path (e ∷ es) p = ap (cond (is_at (path_cmp p) e.0) (Some e.1)) (find_path es p)

-- a map has at each path what its entries have
pub get_path : {X : Type 0} (es : List (PathValue × X)) (p : PathValue) → get (from_entries {R =
    path_cmp} es) p ≡ lookup (is_at (path_cmp p)) es
get_path es p = get-from_entries path_cmp_total es p ∙ find_path es p

pub get_entries : {X : Type 0} (m : FinMap path_cmp X) (p : PathValue)
    → get m p ≡ lookup (is_at (path_cmp p)) (entries m)
get_entries m p = get-entries m p ∙ find_path (entries m) p

all_below : {X : Type 0} (p : PathValue) (es : List (PathValue × X))
    → AllByRecursion (λ k. path_cmp p k ≡ Less) (keys_of es) → below_all path_cmp p es ≡ true
all_below p [] h = refl
all_below p (e ∷ es) h = ap (λ o. is_lt o && below_all path_cmp p es) h.0 ∙ all_below p es h.1

are_sorted : {X : Type 0} (es : List (PathValue × X)) → IsStrictlySortedBy path_cmp (keys_of es)
    → is_sorted path_cmp es ≡ true
are_sorted [] s = refl
are_sorted (e ∷ es) s =
    ap (λ b. b && is_sorted path_cmp es)
    (all_below e.0 es (sorted_head path_cmp e.0 (keys_of es) s))
    ∙ are_sorted es (sorted_tail path_cmp e.0 (keys_of es) s)

-- entries in order are those of their map
pub entries_of : {X : Type 0} (es : List (PathValue × X))
    → IsStrictlySortedBy path_cmp (keys_of es) → entries (from_entries {R = path_cmp} es) ≡ es
entries_of es s =
    same_entries path_cmp path_cmp_total path_cmp-IsAntisymmetric (entries (from_entries es)) es
    (entries_sorted (from_entries es)) (subst T (sym (are_sorted es s)) tt)
    (λ q. sym (get-entries (from_entries es) q) ∙ get-from_entries path_cmp_total es q)
