-- A listing of all locks finds what their map does.
use Rattle.std.proofs.Common.{◌≡◌, true, List, [], ◌∷◌, Option, Some, None, refl, sym, ap, ◌∙◌}
use Rattle.std.proofs.lemmas.List.Sorted.{Contains-permutation, IsPermutation-sym, IsPermutation-map}
use Rattle.std.proofs.{lemmas.Map.Keys.{IsDistinct-from_sorted, IsDistinct-IsPermutation}, lemmas.Map.Views.{lookup-from_Contains, Contains-from_lookup}}
use Rattle.std.specs.{Cmp.eq_by_cmp_equiv, BTreeMap.is_at, FinMap.{get, entries}, List.{IsDistinct, filter}, List.Sorted.IsPermutation, Map.{lookup, keys_of}}
use Rattle.std.specs.Ordering.{eq_by_cmp}
use Rattle.svnpath.specs.{Listings.{listing, listing_permutation}, PathLaws.at_is, Paths.{path_cmp, path_cmp_total, path_ties, PathValue, same_path}}
use Rattle.repo_api.specs.{Locking.at_or_under, StateLaws.get_entries, States.LockMap, declared.lock.Lock.Lock}
use Rattle.filed_trees.specs.StandsFor.{lock_of}
use Rattle.block_rules.proofs.Ordered.{in_order}

-- ---- the keys of a map differ

keys_differ : (m : LockMap) → IsDistinct (eq_by_cmp path_cmp) (keys_of (entries m))
keys_differ m =
    IsDistinct-from_sorted path_cmp (keys_of (entries m))
    (in_order m)

-- ---- a look-up finds the same in whatever order the entries stand

module _ (p : PathValue) (es ls : List (PathValue × Lock)) (perm : IsPermutation es ls)
    (apart : IsDistinct (eq_by_cmp path_cmp) (keys_of es)) where
  apart_there : IsDistinct (eq_by_cmp path_cmp) (keys_of ls)
  apart_there =
      IsDistinct-IsPermutation (eq_by_cmp path_cmp) (eq_by_cmp_equiv path_cmp_total).symm
      (keys_of es) (keys_of ls) (IsPermutation-map (λ e. e.0) es ls perm) apart

  there : (l : Lock) → lookup (is_at (path_cmp p)) es ≡ Some l
      → lookup (is_at (path_cmp p)) ls ≡ Some l
  there l at =
      lookup-from_Contains (eq_by_cmp_equiv path_cmp_total) p l ls apart_there
      (Contains-permutation es ls (p, l) perm (Contains-from_lookup at_is p l es at))

  back : (l : Lock) → lookup (is_at (path_cmp p)) ls ≡ Some l
      → lookup (is_at (path_cmp p)) es ≡ Some l
  back l at =
      lookup-from_Contains (eq_by_cmp_equiv path_cmp_total) p l es apart
      (Contains-permutation ls es (p, l) (IsPermutation-sym es ls perm)
      (Contains-from_lookup at_is p l ls at))

  found_same : lookup (is_at (path_cmp p)) ls ≡ lookup (is_at (path_cmp p)) es
  found_same = by (lookup (is_at (path_cmp p)) es) (lookup (is_at (path_cmp p)) ls) refl refl
    where
      by : (e l : Option Lock) → lookup (is_at (path_cmp p)) es ≡ e
          → lookup (is_at (path_cmp p)) ls ≡ l → l ≡ e
      by None None in_es in_ls = refl
      by None (Some l) in_es in_ls = sym (back l in_ls) ∙ in_es
      by (Some e) l in_es in_ls = sym in_ls ∙ there e in_es

-- ---- by the definition of what files say

turned : (p q : PathValue) → same_path q p ≡ is_at (path_cmp p) q
turned p q = path_ties q p ∙ (eq_by_cmp_equiv path_cmp_total).symm q p

pub looked_up : (ls : List (PathValue × Lock)) (p : PathValue)
    → lock_of ls p ≡ lookup (is_at (path_cmp p)) ls
looked_up [] p = refl
looked_up (l ∷ ls) p = rw (turned p l.0, looked_up ls p) refl

all_under : (es : List (PathValue × Lock)) → filter (λ e. true) es ≡ es
all_under [] = refl
all_under (e ∷ es) = ap (λ l. e ∷ l) (all_under es)

-- all locks, by the bytes of their paths
pub all_listed : (m : LockMap) (p : PathValue) → get m p ≡ lock_of (at_or_under m []) p
all_listed m p =
    get_entries m p
    ∙ sym (found_same p (entries m) (listing (entries m)) (listing_permutation (entries m))
    (keys_differ m))
    ∙ sym (looked_up (listing (entries m)) p)
    ∙ ap (λ es. lock_of (listing es) p) (sym (all_under (entries m)))
