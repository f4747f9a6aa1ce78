-- The map that entries in order make.
use Rattle.std.proofs.{Common.{◌≡◌, true, ◌&&◌, cond, List, [], ◌∷◌, length, Some, refl, sym, ap, subst, ◌∙◌}, lemmas.Map.Keys.{sorted_head, sorted_tail}}
use Rattle.std.specs.{BTreeMap.is_at, Cmp.eq_by_cmp_equiv, List.AllByRecursion, List.Sorted.IsStrictlySortedBy, Map.{lookup, keys_of}}
use Rattle.std.specs.{Ordering.{is_lt, eq_by_cmp}, Prelude.{T, Option, None, IfSome, option_map}, declared.cmp.Ordering.TheVariants.{Less, Equal}}
use Rattle.std.specs.FinMap.{FinMap, get, len, entries, from_entries, insert, remove, entries_sorted, get-entries, get-from_entries, get-insert, get-remove}
use Rattle.std.specs.{FinMap.{len-entries, same_map}, FinMap.Entries.{is_sorted, below_all, same_entries}}
use Rattle.svnpath.specs.Paths.{path_cmp, path_cmp-IsAntisymmetric, path_cmp_total, PathValue}
use Rattle.repo_api.specs.StateLaws.{get_path}

all_below : {X : Type 0} (p : PathValue) (es : List (PathValue × X)) → AllByRecursion (λ k. path_cmp p k ≡ Less) (keys_of es) → below_all path_cmp p es ≡ true
all_below p [] h = refl
all_below p (e ∷ es) h = ap (λ o. is_lt o && below_all path_cmp p es) h.0 ∙ all_below p es h.1

sorted_so : {X : Type 0} (es : List (PathValue × X)) → IsStrictlySortedBy path_cmp (keys_of es) → is_sorted path_cmp es ≡ true
sorted_so [] s = refl
sorted_so (e ∷ es) s =
    ap (λ b. b && is_sorted path_cmp es) (all_below e.0 es (sorted_head path_cmp e.0 (keys_of es) s))
    ∙ sorted_so es (sorted_tail path_cmp e.0 (keys_of es) s)

-- entries in order are those of their map
pub entries_of : {X : Type 0} (es : List (PathValue × X)) → IsStrictlySortedBy path_cmp (keys_of es) → entries (from_entries {R = path_cmp} es) ≡ es
entries_of es s =
    same_entries path_cmp path_cmp_total path_cmp-IsAntisymmetric (entries (from_entries es)) es
    (entries_sorted (from_entries es)) (subst T (sym (sorted_so es s)) tt)
    (λ q. sym (get-entries (from_entries es) q) ∙ get-from_entries path_cmp_total es q)

pub len_of : {X : Type 0} (es : List (PathValue × X)) → IsStrictlySortedBy path_cmp (keys_of es) → len (from_entries {R = path_cmp} es) ≡ length es
len_of es s = len-entries (from_entries es) ∙ ap length (entries_of es s)

-- entries that have one more at p, or none there, make the map with it
pub inserted : {X : Type 0} (es es' : List (PathValue × X)) (p : PathValue) (x : X)
    → ((q : PathValue) → lookup (is_at (path_cmp q)) es' ≡ cond (is_at (path_cmp p) q) (Some x) (lookup (is_at (path_cmp q)) es))
    → ◌≡◌ {A = FinMap path_cmp X} (from_entries es') (insert (from_entries es) p x)
inserted es es' p x h =
    same_map path_cmp_total path_cmp-IsAntisymmetric (from_entries es') (insert (from_entries es) p x)
    (λ q. get_path es' q ∙ h q
    ∙ ap (λ b. cond b (Some x) (lookup (is_at (path_cmp q)) es)) ((eq_by_cmp_equiv path_cmp_total).symm p q)
    ∙ ap (λ o. cond (eq_by_cmp path_cmp q p) (Some x) o) (sym (get_path es q))
    ∙ sym (get-insert path_cmp_total (from_entries es) p x q))

pub removed : {X : Type 0} (es es' : List (PathValue × X)) (p : PathValue)
    → ((q : PathValue) → lookup (is_at (path_cmp q)) es' ≡ cond (is_at (path_cmp p) q) None (lookup (is_at (path_cmp q)) es))
    → ◌≡◌ {A = FinMap path_cmp X} (from_entries es') (remove (from_entries es) p)
removed es es' p h =
    same_map path_cmp_total path_cmp-IsAntisymmetric (from_entries es') (remove (from_entries es) p)
    (λ q. get_path es' q ∙ h q
    ∙ ap (λ b. cond b None (lookup (is_at (path_cmp q)) es)) ((eq_by_cmp_equiv path_cmp_total).symm p q)
    ∙ ap (λ o. cond (eq_by_cmp path_cmp q p) None o) (sym (get_path es q))
    ∙ sym (get-remove path_cmp_total (from_entries es) p q))

-- what a map has, by the entries that make it
pub seen_at : {X : Type 0} (es : List (PathValue × X)) (m : FinMap path_cmp X) (q : PathValue) → from_entries es ≡ m → get m q ≡ lookup (is_at (path_cmp q)) es
seen_at {X} es m q is = ap (λ (t : FinMap path_cmp X). get t q) (sym is) ∙ get_path es q

-- an entry that was found at p is that of p
pub taken_of : {X : Type 0} (found : Option (PathValue × X)) (p : PathValue) (value : Option X) → IfSome found (λ e. path_cmp p e.0 ≡ Equal) → option_map (λ e. e.1) found ≡ value
    → found ≡ option_map (λ x. (p, x)) value
taken_of None p value same is = ap (option_map (λ x. (p, x))) is
taken_of (Some e) p value same is =
    (λ i. Some (sym (path_cmp-IsAntisymmetric p e.0 same) i, e.1)) ∙ ap (option_map (λ x. (p, x))) is
