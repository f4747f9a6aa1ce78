-- In a tree, names lead to each entry beneath a path.
use Rattle.std.proofs.Common.{◌≡◌, true, ◌&&◌, List, [], ◌∷◌, ◌++◌, Option, Some, None, is_some, refl, sym, ap, ◌∙◌, append_assoc}
use Rattle.std.proofs.{lemmas.Bool.{and_parts, and_from}, lemmas.List.append-nil}
use Rattle.std.specs.{FinMap.get, Prelude.{IsSomeAnd, IsTrue}}
use Rattle.svnpath.specs.Paths.{Component, PathValue}
use Rattle.repo_api.specs.{Readings.rest_beneath, States.{tree_of, TreeMap}, Trees.{is_directory, IsTree}, declared.entry.Entry.Entry}
use Rattle.merge_queries.specs.{Beneath.{has_names, leads, AreAllBeneath}, Queries.has_value}
use Rattle.merge_queries.proofs.{Inheriting.both_ways, Leading.{valued_there, with_rest}}

directory_there : (e : Option Entry) → IsSomeAnd e (λ d. IsTrue (is_directory d)) → is_some e ≡ true
directory_there None h = absurd h
directory_there (Some e) h = refl

above_there : (m : TreeMap) → IsTree (tree_of m) → (p rest : PathValue) → is_some (get m (p ++ rest)) ≡ true → is_some (get m p) ≡ true
above_there m tree p [] there = ap (λ x. is_some (get m x)) (sym (append-nil p)) ∙ there
above_there m tree p (c ∷ rest) there =
    directory_there (get m p)
    (tree.parents p c (above_there m tree (p ++ c ∷ []) rest (ap (λ x. is_some (get m x)) (append_assoc p (c ∷ []) rest) ∙ there)))

all_lead : (m : TreeMap) → IsTree (tree_of m) → (p : PathValue) (c : Component) (names : List Component) → is_some (get m (p ++ c ∷ names)) ≡ true → leads m p (c ∷ names) ≡ true
all_lead m tree p c [] there = there
all_lead m tree p c (d ∷ names) there =
    let so : is_some (get m ((p ++ c ∷ []) ++ d ∷ names)) ≡ true = ap (λ x. is_some (get m x)) (append_assoc p (c ∷ []) (d ∷ names)) ∙ there in
    and_from (is_some (get m (p ++ c ∷ []))) (leads m (p ++ c ∷ []) (d ∷ names)) (above_there m tree (p ++ c ∷ []) (d ∷ names) so) (all_lead m tree (p ++ c ∷ []) d names so)

pub all_beneath : (m : TreeMap) (p : PathValue) → IsTree (tree_of m) → AreAllBeneath m p
all_beneath m p tree q = by (rest_beneath p q) refl
  where
    by : (names : List Component) → rest_beneath p q ≡ names → (leads m p names && has_value m q) ≡ (has_names names && has_value m q)
    by [] is = refl
    by (c ∷ names) is =
        both_ways (leads m p (c ∷ names) && has_value m q) (has_value m q)
        (λ e. (and_parts (leads m p (c ∷ names)) (has_value m q) e).1)
        (λ v. and_from (leads m p (c ∷ names)) (has_value m q)
        (all_lead m tree p c names (ap (λ x. is_some (get m x)) (sym (with_rest p q c names is)) ∙ valued_there m q v)) v)
