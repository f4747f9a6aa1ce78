-- What is beneath a path is at or beneath a name of it.
use Rattle.std.proofs.Common.{◌≡◌, arith, ℕ, ◌<◌, ◌≤◌, ◌+◌, Bool, true, false, ◌&&◌, ◌||◌, List, [], ◌∷◌, ◌++◌, length, drop, Option, Some, None, is_some, refl}
use Rattle.std.proofs.{Common.{sym, ap, ◌∙◌, append_assoc}, lemmas.Bool.{false≢true, and_parts, and_from, or_left, or_right}, lemmas.List.length-append}
use Rattle.std.specs.{FinMap.{get, keys, contains_key-keys}, List.{cons_option, list_any}, Prelude.if◌then◌else◌, Option.unwrap_or}
use Rattle.svnpath.specs.PathLaws.{rest_append, same_component_is, same_component_refl, same_path_is, under_append, under_is}
use Rattle.svnpath.specs.Paths.{Component, is_at_or_under, path_ties, PathValue, same_component, same_path}
use Rattle.repo_api.specs.{Kinds.{node_properties, or_empty}, Readings.{is_name_among, name_in, names_among, names_in, rest_beneath, sole}, States.TreeMap}
use Rattle.repo_api.specs.declared.entry.Entry.{Entry}
use Rattle.merge_queries.specs.{Beneath.{has_names, is_descendant, leads}, Queries.{has_value, merge_value}}
use Rattle.merge_queries.proofs.Inheriting.{both_ways, same_if}

-- ---- the rest of a path

pub rest_of : (p r : PathValue) → rest_beneath p (p ++ r) ≡ r
rest_of p r = ap (λ b. if b then drop (length p) (p ++ r) else []) (under_append p r) ∙ rest_append p r

pub with_rest : (p q : PathValue) (c : Component) (names : List Component) → rest_beneath p q ≡ c ∷ names → q ≡ p ++ c ∷ names
with_rest p q c names is = by (is_at_or_under q p) refl is
  where
    by : (b : Bool) → is_at_or_under q p ≡ b → (if b then drop (length p) q else []) ≡ c ∷ names → q ≡ p ++ c ∷ names
    by true under e = under_is q p under ∙ ap (λ rest. p ++ rest) e
    by false out e = absurd (false≢true (ap has_names e))

-- ---- names of what is there

-- the keys are the paths at which something is
pub keys_there : (m : TreeMap) (q : PathValue) → list_any (same_path q) (keys m) ≡ is_some (get m q)
keys_there m q = (λ i. list_any (λ k. path_ties q k i) (keys m)) ∙ sym (contains_key-keys m q)

only_is : (xs : List Component) (x : Component) → sole xs ≡ Some x → xs ≡ x ∷ []
only_is [] x h = absurd (false≢true (ap is_some h))
only_is (y ∷ []) x h = λ i. unwrap_or (h i) x ∷ []
only_is (y ∷ z ∷ zs) x h = absurd (false≢true (ap is_some h))

name_of : (p : PathValue) (c : Component) → name_in p (p ++ c ∷ []) ≡ Some c
name_of p c = ap sole (rest_of p (c ∷ []))

-- whether it is the name
abbrev is_it : Component → Option Component → Bool
is_it c None = false
is_it c (Some d) = same_component c d

named_so : (p k : PathValue) (c : Component) → is_it c (name_in p k) ≡ same_path (p ++ c ∷ []) k
named_so p k c = both_ways (is_it c (name_in p k)) (same_path (p ++ c ∷ []) k) (λ e. there (name_in p k) refl e) back
  where
    there : (o : Option Component) → name_in p k ≡ o → is_it c o ≡ true → same_path (p ++ c ∷ []) k ≡ true
    there None none e = absurd (false≢true e)
    there (Some d) named e =
        same_if (p ++ c ∷ []) k
        (ap (λ x. p ++ x ∷ []) (same_component_is c d e) ∙ sym (with_rest p k d [] (only_is (rest_beneath p k) d named)))

    back : same_path (p ++ c ∷ []) k ≡ true → is_it c (name_in p k) ≡ true
    back e =
        ap (λ x. is_it c (name_in p x)) (sym (same_path_is (p ++ c ∷ []) k e)) ∙ ap (is_it c) (name_of p c) ∙ same_component_refl c

names_so : (p : PathValue) (paths : List PathValue) (c : Component) → is_name_among (names_among p paths) c ≡ list_any (same_path (p ++ c ∷ [])) paths
names_so p [] c = refl
names_so p (k ∷ paths) c =
    first (name_in p k) ∙ ap (λ b. b || is_name_among (names_among p paths) c) (named_so p k c)
    ∙ ap (λ b. same_path (p ++ c ∷ []) k || b) (names_so p paths c)
  where
    first : (o : Option Component) → is_name_among (cons_option o (names_among p paths)) c ≡ (is_it c o || is_name_among (names_among p paths) c)
    first None = refl
    first (Some d) = refl

-- a name is there where something is at its path
pub name_there : (m : TreeMap) (p : PathValue) (c : Component) → is_name_among (names_in m p) c ≡ is_some (get m (p ++ c ∷ []))
name_there m p c = names_so p (keys m) c ∙ keys_there m (p ++ c ∷ [])

-- ---- beneath a path, by names

-- it is the path with the name, or beneath that
abbrev pub is_from : TreeMap → PathValue → PathValue → Component → Bool
is_from m p q c = (same_path q (p ++ c ∷ []) && has_value m q) || is_descendant m (p ++ c ∷ []) q

descends : (m : TreeMap) (p q : PathValue) (c : Component) (names : List Component) → q ≡ p ++ c ∷ names → leads m p (c ∷ names) ≡ true → has_value m q ≡ true
    → is_descendant m p q ≡ true
descends m p q c names is led valued =
    and_from (leads m p (rest_beneath p q)) (has_value m q)
    (ap (λ x. leads m p (rest_beneath p x)) is ∙ ap (leads m p) (rest_of p (c ∷ names)) ∙ led) valued

from_child : (m : TreeMap) (p q : PathValue) (c : Component) → is_some (get m (p ++ c ∷ [])) ≡ true → is_from m p q c ≡ true → is_descendant m p q ≡ true
from_child m p q c there so = by (same_path q (p ++ c ∷ []) && has_value m q) refl so
  where
    deeper : (names : List Component) → rest_beneath (p ++ c ∷ []) q ≡ names → leads m (p ++ c ∷ []) names ≡ true → has_value m q ≡ true → is_descendant m p q ≡ true
    deeper [] is led valued = absurd (false≢true led)
    deeper (d ∷ names) is led valued =
        descends m p q c (d ∷ names) (with_rest (p ++ c ∷ []) q d names is ∙ append_assoc p (c ∷ []) (d ∷ names))
        (and_from (is_some (get m (p ++ c ∷ []))) (leads m (p ++ c ∷ []) (d ∷ names)) there led) valued

    by : (b : Bool) → (same_path q (p ++ c ∷ []) && has_value m q) ≡ b → (b || is_descendant m (p ++ c ∷ []) q) ≡ true → is_descendant m p q ≡ true
    by true here e =
        let parts = and_parts (same_path q (p ++ c ∷ [])) (has_value m q) here in
        descends m p q c [] (same_path_is q (p ++ c ∷ []) parts.0) there parts.1
    by false here e =
        let parts = and_parts (leads m (p ++ c ∷ []) (rest_beneath (p ++ c ∷ []) q)) (has_value m q) e in
        deeper (rest_beneath (p ++ c ∷ []) q) refl parts.0 parts.1

to_child : (m : TreeMap) (p q : PathValue) (c : Component) (names : List Component) → q ≡ p ++ c ∷ names → leads m p (c ∷ names) ≡ true → has_value m q ≡ true
    → is_from m p q c ≡ true
to_child m p q c [] is led valued =
    or_left (same_path q (p ++ c ∷ []) && has_value m q) (is_descendant m (p ++ c ∷ []) q)
    (and_from (same_path q (p ++ c ∷ [])) (has_value m q) (same_if q (p ++ c ∷ []) is) valued)
to_child m p q c (d ∷ names) is led valued =
    or_right (same_path q (p ++ c ∷ []) && has_value m q) (is_descendant m (p ++ c ∷ []) q)
    (descends m (p ++ c ∷ []) q d names (is ∙ sym (append_assoc p (c ∷ []) (d ∷ names)))
    (and_parts (is_some (get m (p ++ c ∷ []))) (leads m (p ++ c ∷ []) (d ∷ names)) led).1 valued)

child_there : (m : TreeMap) (p : PathValue) (c : Component) (names : List Component) → leads m p (c ∷ names) ≡ true → is_some (get m (p ++ c ∷ [])) ≡ true
child_there m p c [] led = led
child_there m p c (d ∷ names) led = (and_parts (is_some (get m (p ++ c ∷ []))) (leads m (p ++ c ∷ []) (d ∷ names)) led).0

among_any : (test : Component → Bool) (names : List Component) (c : Component) → is_name_among names c ≡ true → test c ≡ true → list_any test names ≡ true
among_any test [] c among e = absurd (false≢true among)
among_any test (x ∷ names) c among e = by (same_component c x) refl among (λ h. among_any test names c h e)
  where
    by : (b : Bool) → same_component c x ≡ b → (b || is_name_among names c) ≡ true → (is_name_among names c ≡ true → list_any test names ≡ true)
        → (test x || list_any test names) ≡ true
    by true is h more = or_left (test x) (list_any test names) (ap test (sym (same_component_is c x is)) ∙ e)
    by false is h more = or_right (test x) (list_any test names) (more h)

any_descends : (m : TreeMap) (p q : PathValue) (names : List Component) → ((c : Component) → is_name_among names c ≡ true → is_some (get m (p ++ c ∷ [])) ≡ true)
    → list_any (is_from m p q) names ≡ true → is_descendant m p q ≡ true
any_descends m p q [] there so = absurd (false≢true so)
any_descends m p q (c ∷ names) there so =
    by (is_from m p q c) refl so (any_descends m p q names (λ d among. there d (or_right (same_component d c) (is_name_among names d) among)))
  where
    by : (b : Bool) → is_from m p q c ≡ b → (b || list_any (is_from m p q) names) ≡ true → (list_any (is_from m p q) names ≡ true → is_descendant m p q ≡ true)
        → is_descendant m p q ≡ true
    by true is h more = from_child m p q c (there c (or_left (same_component c c) (is_name_among names c) (same_component_refl c))) is
    by false is h more = more h

-- what is beneath a path is from one of its names
pub from_names : (m : TreeMap) (p q : PathValue) → list_any (is_from m p q) (names_in m p) ≡ is_descendant m p q
from_names m p q =
    both_ways (list_any (is_from m p q) (names_in m p)) (is_descendant m p q)
    (any_descends m p q (names_in m p) (λ c among. sym (name_there m p c) ∙ among))
    (λ so.
    let parts = and_parts (leads m p (rest_beneath p q)) (has_value m q) so in
    back (rest_beneath p q) refl parts.0 parts.1)
  where
    back : (names : List Component) → rest_beneath p q ≡ names → leads m p names ≡ true → has_value m q ≡ true → list_any (is_from m p q) (names_in m p) ≡ true
    back [] is led valued = absurd (false≢true led)
    back (c ∷ names) is led valued =
        among_any (is_from m p q) (names_in m p) c (name_there m p c ∙ child_there m p c names led)
        (to_child m p q c names (with_rest p q c names is) led valued)

-- ---- a value is one of an entry

entry_has : (e : Option Entry) → is_some (merge_value (or_empty (node_properties e))) ≡ true → is_some e ≡ true
entry_has None h = absurd (false≢true h)
entry_has (Some e) h = refl

pub valued_there : (m : TreeMap) (q : PathValue) → has_value m q ≡ true → is_some (get m q) ≡ true
valued_there m q h = entry_has (get m q) h

-- ---- no path is as long

abbrev pub names_altogether : List PathValue → ℕ
names_altogether [] = 0
names_altogether (p ∷ paths) = length p + names_altogether paths

short_among : (p : PathValue) (paths : List PathValue) → list_any (same_path p) paths ≡ true → length p ≤ names_altogether paths
short_among p [] h = absurd (false≢true h)
short_among p (q ∷ qs) h = by (same_path p q) refl h (short_among p qs)
  where
    by : (b : Bool) → same_path p q ≡ b → (b || list_any (same_path p) qs) ≡ true → (list_any (same_path p) qs ≡ true → length p ≤ names_altogether qs)
        → length p ≤ length q + names_altogether qs
    by true e f short = omega (ap (λ x. length x) (same_path_is p q e), arith)
    by false e f short = omega (short f, arith)

abbrev pub path_bound : TreeMap → ℕ
path_bound m = 1 + names_altogether (keys m)

-- a name of a path makes a path that is no longer than all names
pub child_short : (m : TreeMap) (p : PathValue) (c : Component) → is_name_among (names_in m p) c ≡ true → length p < names_altogether (keys m)
child_short m p c among =
    let short = short_among (p ++ c ∷ []) (keys m) (keys_there m (p ++ c ∷ []) ∙ sym (name_there m p c) ∙ among) in
    omega (short, length-append p (c ∷ []), arith)
