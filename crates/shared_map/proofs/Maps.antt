-- Lists of entries as maps.
use Rattle.std.proofs.Common.{◌≡◌, ◌≤◌, ◌+◌, Bool, true, false, cond, not, List, [], ◌∷◌, ℕ, length, None, is_some, refl, sym, ap, subst, arith, ◌∙◌}
use Rattle.std.specs.{Prelude.{T, ◌&&◌}, Cmp.{IsTotalOrder, eq_by_cmp_equiv, alike_right}, Cmp.Lexicographic.nat_list_cmp_total, FinMap.FinMap}
use Rattle.std.specs.FinMap.{IsAntisymmetric, slice_cmp-IsAntisymmetric, nat_cmp-IsAntisymmetric, entries, empty, get, insert, remove, from_sorted}
use Rattle.std.specs.FinMap.{entries-from_sorted, entries-insert, get-from_sorted, get-remove, same_map, same_entries_map, empty_of_len, len-entries, keys}
use Rattle.std.specs.{FinMap.entries_sorted, FinMap.Entries.{put, find, is_sorted, is_sorted-put, is_sorted-where_key, find-where_key, length-put, below_all}}
use Rattle.std.specs.{List.AllByRecursion, List.Sorted.IsStrictlySortedBy, Map.keys_of, Ordering.{eq_by_cmp, is_eq, is_lt}, declared.cmp.Ordering.Ordering}
use Rattle.std.specs.declared.cmp.Ordering.TheVariants.{Less, Equal, Greater}
use Rattle.shared_map.specs.Entries.{by_bytes, without}

pub total : IsTotalOrder by_bytes
total = nat_list_cmp_total

pub same_name : IsAntisymmetric by_bytes
same_name = slice_cmp-IsAntisymmetric nat_cmp-IsAntisymmetric

turned : {A : Type 0} (b : Bool) (x y : A) → cond (not b) x y ≡ cond b y x
turned true x y = refl
turned false x y = refl

module _ {X : Type 0} where
  pub sorted_put : (name : List ℕ) (v : X) (es : List (List ℕ × X)) → T (is_sorted by_bytes es) → T (is_sorted by_bytes (put by_bytes name v es))
  sorted_put name v es h = is_sorted-put by_bytes total name v es h

  pub sorted_without : (name : List ℕ) (es : List (List ℕ × X)) → T (is_sorted by_bytes es) → T (is_sorted by_bytes (without name es))
  sorted_without name es h = is_sorted-where_key by_bytes (λ n. not (eq_by_cmp by_bytes name n)) es h

  pub map_put : (name : List ℕ) (v : X) (old new : List (List ℕ × X)) → T (is_sorted by_bytes old) → new ≡ put by_bytes name v old
      → from_sorted {R = by_bytes} new ≡ insert (from_sorted {R = by_bytes} old) name v
  map_put name v old new h is =
      same_entries_map _ _
      (entries-from_sorted by_bytes new (subst (λ es. T (is_sorted by_bytes es)) (sym is) (sorted_put name v old h)) ∙ is
      ∙ ap (put by_bytes name v) (sym (entries-from_sorted by_bytes old h)) ∙ sym (entries-insert total (from_sorted {R = by_bytes} old) name v))

  pub map_remove : (name : List ℕ) (old new : List (List ℕ × X)) → T (is_sorted by_bytes old) → new ≡ without name old
      → from_sorted {R = by_bytes} new ≡ remove (from_sorted {R = by_bytes} old) name
  map_remove name old new h is =
      same_map total same_name _ _ (λ q.
      get-from_sorted by_bytes new q (subst (λ es. T (is_sorted by_bytes es)) (sym is) (sorted_without name old h)) ∙ ap (find by_bytes q) is
      ∙ find-where_key by_bytes (λ n. not (eq_by_cmp by_bytes name n)) q (λ x t. ap (λ r. not (is_eq r)) (sym (alike_right total q x name t))) old
      ∙ turned (eq_by_cmp by_bytes name q) _ _
      ∙ ap (λ b. cond b None (find by_bytes q old)) ((eq_by_cmp_equiv total).symm name q)
      ∙ ap (cond (eq_by_cmp by_bytes q name) None) (sym (get-from_sorted by_bytes old q h))
      ∙ sym (get-remove total (from_sorted {R = by_bytes} old) name q))

  pub map_get : (name : List ℕ) (es : List (List ℕ × X)) → T (is_sorted by_bytes es) → get (from_sorted {R = by_bytes} es) name ≡ find by_bytes name es
  map_get name es h = get-from_sorted by_bytes es name h

sizes : (b : Bool) (n m : ℕ) → m ≡ cond b n (n + 1) → (n ≤ m) × (m ≤ n + 1)
sizes true n m is = (omega (arith, is), omega (arith, is))
sizes false n m is = (omega (arith, is), omega (arith, is))

-- one entry more, or as many as before
pub put_size : {X : Type 0} (name : List ℕ) (v : X) (es : List (List ℕ × X)) → T (is_sorted by_bytes es)
    → (length es ≤ length (put by_bytes name v es)) × (length (put by_bytes name v es) ≤ length es + 1)
put_size name v es h = sizes (is_some (find by_bytes name es)) (length es) _ (length-put by_bytes total name v es h)

pub map_new : {X : Type 0} (es : List (List ℕ × X)) → es ≡ [] → from_sorted {R = by_bytes} es ≡ empty
map_new es is =
    empty_of_len (from_sorted {R = by_bytes} es)
    (len-entries (from_sorted {R = by_bytes} es) ∙ ap length (entries-from_sorted by_bytes es (subst (λ l. T (is_sorted by_bytes l)) (sym is) tt) ∙ is))

pub map_entries : {X : Type 0} (es : List (List ℕ × X)) → T (is_sorted by_bytes es) → entries (from_sorted {R = by_bytes} es) ≡ es
map_entries es h = entries-from_sorted by_bytes es h

-- ---- in order

parted : (a b : Bool) → T (a && b) → T a × T b
parted true b h = (tt, h)
parted false b h = absurd h

is_less : (r : Ordering) → T (is_lt r) → r ≡ Less
is_less Less h = refl
is_less Equal h = absurd h
is_less Greater h = absurd h

below_keys : {X : Type 0} (k : List ℕ) (es : List (List ℕ × X)) → T (below_all by_bytes k es) → AllByRecursion (λ n. by_bytes k n ≡ Less) (keys_of es)
below_keys k [] h = tt
below_keys k (e ∷ es) h = let both = parted _ _ h in (is_less _ both.0, below_keys k es both.1)

in_order : {X : Type 0} (es : List (List ℕ × X)) → T (is_sorted by_bytes es) → IsStrictlySortedBy by_bytes (keys_of es)
unfolding IsStrictlySortedBy
in_order [] h = tt
in_order (e ∷ es) h = let both = parted _ _ h in (below_keys e.0 es both.0, in_order es both.1)

-- the names of a map strictly rise
pub names_rise : {X : Type 0} (m : FinMap by_bytes X) → IsStrictlySortedBy by_bytes (keys m)
names_rise m = in_order (entries m) (entries_sorted m)
