-- The names of what stands straight beneath a path, by what stands there.
use Rattle.std.proofs.Common.{◌≡◌, Bool, true, false, ◌&&◌, ◌||◌, List, [], ◌∷◌, ◌++◌, drop, map, length, Option, Some, None, is_some, refl, sym, ap, ◌∙◌}
use Rattle.std.proofs.{lemmas.Bool.false≢true, lemmas.Cmp.tied_itself, lemmas.List.drop_at}
use Rattle.std.specs.Cmp.Lexicographic.{slice_cmp, nat_list_cmp_total}
use Rattle.std.specs.FinMap.{get, keys, entries, entries_sorted, contains_key-keys, slice_cmp-IsAntisymmetric, nat_cmp-IsAntisymmetric}
use Rattle.std.specs.{FinMap.Entries.{is_sorted, below_all}, List.{AllByRecursion, cons_option, list_any}, List.Sorted.IsStrictlySortedBy, Option.unwrap_or}
use Rattle.std.specs.{Ordering.{nat_cmp, is_eq, is_lt, ordering_then, eq_by_cmp}, Prelude.{if◌then◌else◌, T}, declared.cmp.Ordering.Ordering}
use Rattle.std.specs.declared.cmp.Ordering.TheVariants.{Less, Equal, Greater}
use Rattle.svnpath.specs.{PathLaws.{at_is, under_append, under_is}, Paths.{Component, is_at_or_under, path_cmp, PathValue}}
use Rattle.repo_api.specs.{Readings.{name_in, names_among, names_in, rest_beneath, sole}, States.TreeMap, declared.entry.Entry.Entry}
use Rattle.shared_revisions.proofs.Ordered.{one_order}

beneath_cmp : (p x y : PathValue) → path_cmp (p ++ x) (p ++ y) ≡ path_cmp x y
beneath_cmp [] x y = refl
beneath_cmp (a ∷ p) x y =
    ap (λ o. ordering_then o (path_cmp (p ++ x) (p ++ y))) (tied_itself nat_list_cmp_total a)
    ∙ beneath_cmp p x y

one_name : (c d : Component) → path_cmp (c ∷ []) (d ∷ []) ≡ slice_cmp nat_cmp c d
one_name c d = then_equal (slice_cmp nat_cmp c d)
  where
    then_equal : (o : Ordering) → ordering_then o Equal ≡ o
    then_equal Less = refl
    then_equal Equal = refl
    then_equal Greater = refl

only_is : (xs : List Component) (x : Component) → sole xs ≡ Some x → xs ≡ x ∷ []
only_is [] x h = absurd (false≢true (ap is_some h))
only_is (y ∷ []) x h = λ i. unwrap_or (h i) x ∷ []
only_is (y ∷ z ∷ zs) x h = absurd (false≢true (ap is_some h))

-- a path that has a name beneath p
pub name_is : (p m : PathValue) (d : Component) → name_in p m ≡ Some d → m ≡ p ++ d ∷ []
name_is p m d h = by (is_at_or_under m p) refl (only_is (rest_beneath p m) d h)
  where
    no_rest : List Component → Bool
    no_rest [] = false
    no_rest (x ∷ xs) = true

    by : (b : Bool) → is_at_or_under m p ≡ b → (if b then drop (length p) m else []) ≡ d ∷ []
        → m ≡ p ++ d ∷ []
    by true under e = under_is m p under ∙ ap (λ s. p ++ s) e
    by false out e = absurd (false≢true (ap no_rest e))

name_of : (p : PathValue) (n : Component) → name_in p (p ++ n ∷ []) ≡ Some n
name_of p n =
    ap (λ b. sole (if b then drop (length p) (p ++ n ∷ []) else [])) (under_append p (n ∷ []))
    ∙ ap sole (drop_at p (n ∷ []) (length p) refl)

-- two names of paths that stand straight beneath p
names_cmp : (p j k : PathValue) (c d : Component) → name_in p j ≡ Some c → name_in p k ≡ Some d
    → slice_cmp nat_cmp c d ≡ path_cmp j k
names_cmp p j k c d first second =
    sym (one_name c d) ∙ sym (beneath_cmp p (c ∷ []) (d ∷ []))
    ∙ ap (λ q. path_cmp q (p ++ d ∷ [])) (sym (name_is p j c first))
    ∙ ap (path_cmp j) (sym (name_is p k d second))

-- ---- in order

behind : (p : PathValue) (c : Component) (j : PathValue) (ks : List PathValue)
    → name_in p j ≡ Some c
    → AllByRecursion (λ k. path_cmp j k ≡ Less) ks
    → AllByRecursion (λ d. slice_cmp nat_cmp c d ≡ Less) (names_among p ks)
behind p c j [] is all = tt
behind p c j (k ∷ ks) is all = by (name_in p k) refl (behind p c j ks is all.1)
  where
    by : (o : Option Component) → name_in p k ≡ o
        → AllByRecursion (λ d. slice_cmp nat_cmp c d ≡ Less) (names_among p ks)
        → AllByRecursion (λ d. slice_cmp nat_cmp c d ≡ Less) (cons_option o (names_among p ks))
    by None none rest = rest
    by (Some d) named rest = (names_cmp p j k c d is named ∙ all.0, rest)

names_sorted : (p : PathValue) (ks : List PathValue) → IsStrictlySortedBy path_cmp ks
    → IsStrictlySortedBy (slice_cmp nat_cmp) (names_among p ks)
unfolding IsStrictlySortedBy
names_sorted p [] s = tt
names_sorted p (k ∷ ks) s = by (name_in p k) refl (names_sorted p ks s.1)
  where
    by : (o : Option Component) → name_in p k ≡ o
        → IsStrictlySortedBy (slice_cmp nat_cmp) (names_among p ks)
        → IsStrictlySortedBy (slice_cmp nat_cmp) (cons_option o (names_among p ks))
    by None none rest = rest
    by (Some c) named rest = (behind p c k ks named s.0, rest)

parts_of : (a b : Bool) → T (a && b) → T a × T b
parts_of true b h = (tt, h)
parts_of false b h = absurd h

less_is : (o : Ordering) → T (is_lt o) → o ≡ Less
less_is Less h = refl
less_is Equal h = absurd h
less_is Greater h = absurd h

all_below : (p : PathValue) (es : List (PathValue × Entry)) → T (below_all path_cmp p es)
    → AllByRecursion (λ k. path_cmp p k ≡ Less) (map (λ e. e.0) es)
all_below p [] h = tt
all_below p (e ∷ es) h =
    let both = parts_of (is_lt (path_cmp p e.0)) (below_all path_cmp p es) h in
    (less_is (path_cmp p e.0) both.0, all_below p es both.1)

keys_in_order : (es : List (PathValue × Entry)) → T (is_sorted path_cmp es)
    → IsStrictlySortedBy path_cmp (map (λ e. e.0) es)
unfolding IsStrictlySortedBy
keys_in_order [] h = tt
keys_in_order (e ∷ es) h =
    let both = parts_of (below_all path_cmp e.0 es) (is_sorted path_cmp es) h in
    (all_below e.0 es both.0, keys_in_order es both.1)

-- ---- all of them

names_have : (p : PathValue) (ks : List PathValue) (n : Component)
    → list_any (λ x. is_eq (slice_cmp nat_cmp n x)) (names_among p ks)
    ≡ list_any (eq_by_cmp path_cmp (p ++ n ∷ [])) ks
names_have p [] n = refl
names_have p (k ∷ ks) n = by (name_in p k) refl (names_have p ks n)
  where
    not_it : name_in p k ≡ None → (b : Bool) → eq_by_cmp path_cmp (p ++ n ∷ []) k ≡ b → b ≡ false
    not_it none true at =
        absurd (false≢true
        (ap is_some (sym none ∙ ap (name_in p) (sym (at_is (p ++ n ∷ []) k at)) ∙ name_of p n)))
    not_it none false at = refl

    by : (o : Option Component) → name_in p k ≡ o
        → list_any (λ x. is_eq (slice_cmp nat_cmp n x)) (names_among p ks)
        ≡ list_any (eq_by_cmp path_cmp (p ++ n ∷ [])) ks
        → list_any (λ x. is_eq (slice_cmp nat_cmp n x)) (cons_option o (names_among p ks))
        ≡ (eq_by_cmp path_cmp (p ++ n ∷ []) k || list_any (eq_by_cmp path_cmp (p ++ n ∷ [])) ks)
    by None none others = others
        ∙ ap (λ b. b || list_any (eq_by_cmp path_cmp (p ++ n ∷ [])) ks)
        (sym (not_it none (eq_by_cmp path_cmp (p ++ n ∷ []) k) refl))
    by (Some d) named others =
        ap (λ b. is_eq (slice_cmp nat_cmp n d) || b) others
        ∙ ap (λ r. is_eq r || list_any (eq_by_cmp path_cmp (p ++ n ∷ [])) ks)
        (names_cmp p (p ++ n ∷ []) k n d (name_of p n) named)

-- names in order are those of what stands straight beneath p, if something stands at each of them and at no other
pub names_are : (m : TreeMap) (p : PathValue) (names : List Component)
    → IsStrictlySortedBy (slice_cmp nat_cmp) names
    → ((n : Component)
    → list_any (λ x. is_eq (slice_cmp nat_cmp n x)) names ≡ is_some (get m (p ++ n ∷ [])))
    → names ≡ names_in m p
names_are m p names sorted there =
    one_order (slice_cmp nat_cmp) nat_list_cmp_total
    (slice_cmp-IsAntisymmetric nat_cmp-IsAntisymmetric) names (names_in m p) sorted
    (names_sorted p (keys m) (keys_in_order (entries m) (entries_sorted m)))
    (λ n. there n ∙ contains_key-keys m (p ++ n ∷ []) ∙ sym (names_have p (keys m) n))
