-- Paths that are noted, in their order.
use Rattle.std.proofs.Common.{◌≡◌, arith, ℕ, zero, suc, ◌<◌, ◌≤◌, ◌+◌, take, get_or, Bool, true, false, ◌&&◌, ◌||◌, List, [], ◌∷◌, ◌++◌, length, map, refl, sym}
use Rattle.std.proofs.{Common.{ap, ◌∙◌}, lemmas.Bool.{false≢true, and_parts, and_from}, lemmas.List.Folds.list_any_more, lemmas.List.take_all}
use Rattle.std.proofs.lemmas.List.Kept.{IsStrictlySortedBy-filter}
use Rattle.std.specs.{FinMap.{entries, entries_sorted, keys}, FinMap.Entries.{is_sorted, below_all}, List.{AllByRecursion, list_any}}
use Rattle.std.specs.{List.Sorted.IsStrictlySortedBy, Map.keys_of, Ordering.is_lt, Prelude.T, declared.cmp.Ordering.Ordering}
use Rattle.std.specs.declared.cmp.Ordering.TheVariants.{Less, Equal, Greater}
use Rattle.svnpath.specs.PathLaws.{same_component_refl, same_path_is}
use Rattle.svnpath.specs.Paths.{Component, path_cmp, path_cmp_total, path_cmp-IsAntisymmetric, path_ties, PathValue, same_component, same_path}
use Rattle.repo_api.specs.{Readings.{is_name_among, names_in}, States.TreeMap}
use Rattle.merge_queries.specs.{Beneath.{descendants, is_descendant}, Queries.has_value, Walks.{AreNoted, is_path_among}}
use Rattle.merge_queries.proofs.{Inheriting.both_ways, Leading.{from_names, is_from, keys_there, valued_there}}
use Rattle.mergeinfo.proofs.{Ordered.one_order, PathSets.{among_filtered, or_behind, or_swap}}
use denote.Ref.{Bor}

-- ---- one path more

or_none : (b : Bool) → (b || false) ≡ b
or_none true = refl
or_none false = refl

here_if : (m : TreeMap) (p q : PathValue) → has_value m p ≡ true → same_path q p ≡ (same_path q p && has_value m q)
here_if m p q valued = by (same_path q p) refl
  where
    by : (b : Bool) → same_path q p ≡ b → b ≡ (b && has_value m q)
    by true is = sym (ap (has_value m) (same_path_is q p is) ∙ valued)
    by false is = refl

here_not : (m : TreeMap) (p q : PathValue) → has_value m p ≡ false → false ≡ (same_path q p && has_value m q)
here_not m p q none = by (same_path q p) refl
  where
    by : (b : Bool) → same_path q p ≡ b → false ≡ (b && has_value m q)
    by true is = sym (ap (has_value m) (same_path_is q p is) ∙ none)
    by false is = refl

-- a path with a value is put among others, and one without is not
pub noted_here : (m : TreeMap) (p : PathValue) (old new : List PathValue) → has_value m p ≡ true → AreNoted (λ q. same_path q p) old new
    → AreNoted (λ q. same_path q p && has_value m q) old new
noted_here m p old new valued put = λ q. put q ∙ ap (λ b. is_path_among old q || b) (here_if m p q valued)

pub not_noted : (m : TreeMap) (p : PathValue) (paths : List PathValue) → has_value m p ≡ false → AreNoted (λ q. same_path q p && has_value m q) paths paths
not_noted m p paths none = λ q. sym (or_none (is_path_among paths q)) ∙ ap (λ b. is_path_among paths q || b) (here_not m p q none)

-- ---- name by name

-- what is from the first names is noted
abbrev pub IsNotedTo : TreeMap → PathValue → List (Bor Component) → List PathValue → List PathValue → Type 0
IsNotedTo m p names old new = AreNoted (λ q. list_any (λ (n : Bor Component). is_from m p q n.now) names) old new

pub nothing_noted : (m : TreeMap) (p : PathValue) (paths : List PathValue) → IsNotedTo m p [] paths paths
nothing_noted m p paths = λ q. sym (or_none (is_path_among paths q))

pub noted_more : (m : TreeMap) (p child : PathValue) (names : List (Bor Component)) (i : ℕ) (name : Bor Component) (old now here next : List PathValue)
    → i < length names → name ≡ get_or names i name → child ≡ p ++ name.now ∷ []
    → AreNoted (λ q. same_path q child && has_value m q) now here → AreNoted (is_descendant m child) here next
    → IsNotedTo m p (take i names) old now → IsNotedTo m p (take (i + 1) names) old next
noted_more m p child names i name old now here next lt is at one beneath so = λ q.
    beneath q
    ∙ ap (λ b. b || is_descendant m child q) (one q)
    ∙ sym (or_behind (is_path_among now q) (same_path q child && has_value m q) (is_descendant m child q))
    ∙ ap (λ (x : PathValue). is_path_among now q || ((same_path q x && has_value m q) || is_descendant m x q)) at
    ∙ ap (λ b. b || is_from m p q name.now) (so q)
    ∙ sym (or_behind (is_path_among old q) (list_any (λ (n : Bor Component). is_from m p q n.now) (take i names)) (is_from m p q name.now))
    ∙ ap (λ (x : Bor Component). is_path_among old q || (list_any (λ (n : Bor Component). is_from m p q n.now) (take i names) || is_from m p q x.now)) is
    ∙ ap (λ b. is_path_among old q || b) (sym (list_any_more (λ (n : Bor Component). is_from m p q n.now) names i name lt))

any_lent : (f : Component → Bool) (names : List (Bor Component)) → list_any (λ (n : Bor Component). f n.now) names ≡ list_any f (map (λ (n : Bor Component). n.now) names)
any_lent f [] = refl
any_lent f (n ∷ names) = ap (λ b. f n.now || b) (any_lent f names)

-- from all names of a path comes all that is beneath it
pub all_noted : (m : TreeMap) (p : PathValue) (names : List (Bor Component)) (i : ℕ) (old new : List PathValue) → map (λ (n : Bor Component). n.now) names ≡ names_in m p → length names ≤ i
    → IsNotedTo m p (take i names) old new → AreNoted (is_descendant m p) old new
all_noted m p names i old new are over so = λ q.
    so q
    ∙ ap (λ ns. is_path_among old q || list_any (λ (n : Bor Component). is_from m p q n.now) ns) (take_all i names over)
    ∙ ap (λ b. is_path_among old q || b) (any_lent (is_from m p q) names ∙ ap (list_any (is_from m p q)) are ∙ from_names m p q)

lent_among : (names : List (Bor Component)) (i : ℕ) (name : Bor Component) → i < length names → name ≡ get_or names i name → is_name_among (map (λ (n : Bor Component). n.now) names) name.now ≡ true
lent_among [] i name lt is = absurd (omega (lt, arith))
lent_among (n ∷ names) zero name lt is =
    ap (λ b. b || is_name_among (map (λ (n : Bor Component). n.now) names) name.now) (ap (λ (x : Bor Component). same_component name.now x.now) (sym is) ∙ same_component_refl name.now)
lent_among (n ∷ names) (suc i) name lt is =
    ap (λ b. same_component name.now n.now || b) (lent_among names i name (omega (lt, arith)) is) ∙ or_swap (same_component name.now n.now) true

pub name_among : (m : TreeMap) (p : PathValue) (names : List (Bor Component)) (i : ℕ) (name : Bor Component) → map (λ (n : Bor Component). n.now) names ≡ names_in m p
    → i < length names → name ≡ get_or names i name → is_name_among (names_in m p) name.now ≡ true
name_among m p names i name are lt is = ap (λ ns. is_name_among ns name.now) (sym are) ∙ lent_among names i name lt is

-- ---- in order

is_true : (b : Bool) → T b → b ≡ true
is_true true h = refl
is_true false h = absurd h

is_less : (o : Ordering) → is_lt o ≡ true → o ≡ Less
is_less Less h = refl
is_less Equal h = absurd (false≢true h)
is_less Greater h = absurd (false≢true h)

below_keys : {X : Type 0} (p : PathValue) (es : List (PathValue × X)) → below_all path_cmp p es ≡ true → AllByRecursion (λ k. path_cmp p k ≡ Less) (keys_of es)
below_keys p [] h = tt
below_keys p (e ∷ es) h =
    let both = and_parts (is_lt (path_cmp p e.0)) (below_all path_cmp p es) h in
    (is_less (path_cmp p e.0) both.0, below_keys p es both.1)

sorted_keys : {X : Type 0} (es : List (PathValue × X)) → is_sorted path_cmp es ≡ true → IsStrictlySortedBy path_cmp (keys_of es)
unfolding IsStrictlySortedBy
sorted_keys [] h = tt
sorted_keys (e ∷ es) h =
    let both = and_parts (below_all path_cmp e.0 es) (is_sorted path_cmp es) h in
    (below_keys e.0 es both.0, sorted_keys es both.1)

in_order : (m : TreeMap) → IsStrictlySortedBy path_cmp (keys m)
in_order m = sorted_keys (entries m) (is_true (is_sorted path_cmp (entries m)) (entries_sorted m))

among_descendants : (m : TreeMap) (p q : PathValue) → is_path_among (descendants m p) q ≡ is_descendant m p q
among_descendants m p q =
    among_filtered (is_descendant m p) (keys m) q
    ∙ both_ways (is_path_among (keys m) q && is_descendant m p q) (is_descendant m p q)
    (λ e. (and_parts (is_path_among (keys m) q) (is_descendant m p q) e).1)
    (λ e. and_from (is_path_among (keys m) q) (is_descendant m p q)
    (keys_there m q ∙ valued_there m q (and_parts _ (has_value m q) e).1) e)

-- paths in order that are noted from nothing on are those of the tree
pub noted_in_order : (m : TreeMap) (p : PathValue) (old new : List PathValue) → old ≡ [] → IsStrictlySortedBy path_cmp new → AreNoted (is_descendant m p) old new
    → new ≡ descendants m p
noted_in_order m p old new empty sorted noted =
    one_order path_cmp path_cmp_total path_cmp-IsAntisymmetric new (descendants m p) sorted
    (IsStrictlySortedBy-filter path_cmp (is_descendant m p) (keys m) (in_order m))
    (λ q. sym (λ i. list_any (λ k. path_ties q k i) new) ∙ noted q ∙ ap (λ paths. is_path_among paths q || is_descendant m p q) empty
    ∙ sym (among_descendants m p q) ∙ (λ i. list_any (λ k. path_ties q k i) (descendants m p)))
