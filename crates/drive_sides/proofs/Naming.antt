-- The names of what stands straight beneath a path.
use Rattle.std.proofs.Common.{◌≡◌, arith, ℕ, zero, suc, ◌<◌, ◌≤◌, take, get_or, Bool, true, false, cond, ◌||◌, List, [], ◌∷◌, ◌++◌, length, drop, map, Option}
use Rattle.std.proofs.{Common.{Some, None, refl, sym, ap, ◌∙◌}, lemmas.Bool.false≢true, lemmas.Map.Keys.{sorted_head, sorted_tail}}
use Rattle.std.specs.{BTreeSet.insert_key, Cmp.Lexicographic.{slice_cmp, texts_ties}, List.{list_any, cons_option, AllByRecursion}}
use Rattle.std.specs.{Ordering.{nat_cmp, is_eq, match_ordering}, Prelude.{IsSome, is_some}, FinMap.{get, keys}, declared.cmp.Ordering.Ordering}
use Rattle.std.specs.{declared.cmp.Ordering.TheVariants.{Less, Equal, Greater}, List.Sorted.IsStrictlySortedBy}
use Rattle.svnpath.specs.PathLaws.{rest_append, same_component_is, same_component_refl, same_path_is, under_append}
use Rattle.svnpath.specs.Paths.{Component, PathValue, same_component, same_path}
use Rattle.drive_rules.proofs.Joined.{or_left, or_right}
use Rattle.repo_api.specs.{Readings.{is_name_among, name_in, names_among, names_in, sole}, States.TreeMap}
use Rattle.drive_sides.specs.{BoundLaws.key_found, Names.{graft_names, AreDistinct}}
use Rattle.reporter.specs.declared.graft.Graft.{Graft}
use denote.Ref.{Bor}

-- ---- a set of names

or_swap : (a b : Bool) → (a || b) ≡ (b || a)
or_swap true true = refl
or_swap true false = refl
or_swap false true = refl
or_swap false false = refl

or_twice : (a b : Bool) → (a || b) ≡ ((a || b) || a)
or_twice true b = refl
or_twice false true = refl
or_twice false false = refl

or_behind : (a b c : Bool) → (a || (b || c)) ≡ ((a || b) || c)
or_behind true b c = refl
or_behind false b c = refl

among_one : (x : Component) (names : List Component) (c : Component) → is_name_among (x ∷ names) c ≡ (same_component c x || is_name_among names c)
among_one x names c = refl

-- what an insertion adds
pub among_inserted : (names : List Component) (x c : Component) → is_name_among (insert_key (slice_cmp nat_cmp) names x) c ≡ (is_name_among names c || same_component c x)
among_inserted [] x c = or_swap (same_component c x) false
among_inserted (y ∷ names) x c = by (slice_cmp nat_cmp x y) refl (among_inserted names x c)
  where
    by : (o : Ordering) → slice_cmp nat_cmp x y ≡ o → is_name_among (insert_key (slice_cmp nat_cmp) names x) c ≡ (is_name_among names c || same_component c x)
        → is_name_among (match_ordering o (x ∷ y ∷ names) (y ∷ names) (y ∷ insert_key (slice_cmp nat_cmp) names x)) c ≡ ((same_component c y || is_name_among names c) || same_component c x)
    by Less is rest = or_swap (same_component c x) (same_component c y || is_name_among names c)
    by Equal is rest =
        or_twice (same_component c y) (is_name_among names c)
        ∙ ap (λ t. (same_component c y || is_name_among names c) || same_component c t) (sym (same_component_is x y (texts_ties x y ∙ ap is_eq is)))
    by Greater is rest =
        ap (λ b. same_component c y || b) rest ∙ or_behind (same_component c y) (is_name_among names c) (same_component c x)

-- ---- names of paths

pub name_of_child : (p : PathValue) (c : Component) → name_in p (p ++ c ∷ []) ≡ Some c
name_of_child p c =
    ap (λ b. sole (cond b (drop (length p) (p ++ c ∷ [])) [])) (under_append p (c ∷ [])) ∙ ap sole (rest_append p (c ∷ []))

-- a path that is among others has its name among theirs
pub among_names : (p : PathValue) (c : Component) (paths : List PathValue) → list_any (same_path (p ++ c ∷ [])) paths ≡ true → is_name_among (names_among p paths) c ≡ true
among_names p c [] h = absurd (false≢true h)
among_names p c (q ∷ qs) h = by (same_path (p ++ c ∷ []) q) refl (name_in p q) refl h (among_names p c qs)
  where
    with : Option Component → List Component
    with o = cons_option o (names_among p qs)

    by : (b : Bool) → same_path (p ++ c ∷ []) q ≡ b → (o : Option Component) → name_in p q ≡ o → (b || list_any (same_path (p ++ c ∷ [])) qs) ≡ true
        → (list_any (same_path (p ++ c ∷ [])) qs ≡ true → is_name_among (names_among p qs) c ≡ true) → is_name_among (with (name_in p q)) c ≡ true
    by true e o is h more =
        ap (λ x. is_name_among (with x) c) (ap (name_in p) (sym (same_path_is (p ++ c ∷ []) q e)) ∙ name_of_child p c)
        ∙ or_left (same_component c c) (is_name_among (names_among p qs) c) (same_component_refl c)
    by false e None is h more = ap (λ x. is_name_among (with x) c) is ∙ more h
    by false e (Some d) is h more = ap (λ x. is_name_among (with x) c) is ∙ or_right (same_component c d) (is_name_among (names_among p qs) c) (more h)

-- what stands in a tree straight beneath a path has its name among those of the path
pub among_there : (m : TreeMap) (p : PathValue) (c : Component) → IsSome (get m (p ++ c ∷ [])) → is_name_among (names_in m p) c ≡ true
among_there m p c some = among_names p c (keys m) (key_found m (p ++ c ∷ []) some)

-- ---- lists of names

-- names that are lent
pub among_lent : (names : List (Bor Component)) (c : Component) → list_any (λ (n : Bor Component). same_component c n.now) names ≡ is_name_among (map (λ (n : Bor Component). n.now) names) c
among_lent [] c = refl
among_lent (n ∷ names) c = ap (λ b. same_component c n.now || b) (among_lent names c)

abbrev pub is_named : Component → Option Component → Bool
is_named c None = false
is_named c (Some d) = same_component c d

-- the names of grafts, one after another
pub among_grafts : (p : PathValue) (grafts : List Graft) (c : Component) → is_name_among (graft_names p grafts) c ≡ list_any (λ (g : Graft). is_named c (name_in p g.path)) grafts
among_grafts p [] c = refl
among_grafts p (g ∷ grafts) c = by (name_in p g.path) ∙ ap (λ b. is_named c (name_in p g.path) || b) (among_grafts p grafts c)
  where
    by : (o : Option Component) → is_name_among (cons_option o (graft_names p grafts)) c ≡ (is_named c o || is_name_among (graft_names p grafts) c)
    by None = refl
    by (Some d) = refl

-- one name more
pub with_name : (a b d e : Bool) → a ≡ (b || d) → (a || e) ≡ (b || (d || e))
with_name a b d e is = ap (λ x. x || e) is ∙ sym (or_behind b d e)

or_none : (b : Bool) → (b || false) ≡ b
or_none true = refl
or_none false = refl

-- no name more
pub with_none : (a b d e : Bool) → a ≡ (b || d) → e ≡ false → a ≡ (b || (d || e))
with_none a b d e is none = is ∙ ap (λ x. b || x) (sym (or_none d) ∙ ap (λ x. d || x) (sym none))

-- ---- names in order are distinct

not_among : (c : Component) (names : List Component) → AllByRecursion (λ k. slice_cmp nat_cmp c k ≡ Less) names → is_name_among names c ≡ false
not_among c [] less = refl
not_among c (x ∷ names) less = ap (λ b. b || is_name_among names c) (texts_ties c x ∙ ap is_eq less.0) ∙ not_among c names less.1

pub ordered_distinct : (names : List Component) → IsStrictlySortedBy (slice_cmp nat_cmp) names → AreDistinct names
ordered_distinct [] s = tt
ordered_distinct (c ∷ names) s = (not_among c names (sorted_head (slice_cmp nat_cmp) c names s), ordered_distinct names (sorted_tail (slice_cmp nat_cmp) c names s))

-- ---- one of many

pub any_at : {X : Type 0} (f : X → Bool) (xs : List X) (i : ℕ) (x : X) → i < length xs → x ≡ get_or xs i x → f x ≡ true → list_any f xs ≡ true
any_at f [] i x lt is h = absurd (omega (lt, arith))
any_at f (y ∷ xs) zero x lt is h = or_left (f y) (list_any f xs) (ap f (sym is) ∙ h)
any_at f (y ∷ xs) (suc i) x lt is h = or_right (f y) (list_any f xs) (any_at f xs i x (omega (lt, arith)) is h)

pub take-all : {X : Type 0} (n : ℕ) (xs : List X) → length xs ≤ n → take n xs ≡ xs
take-all zero [] le = refl
take-all zero (x ∷ xs) le = absurd (omega (le, arith))
take-all (suc n) [] le = refl
take-all (suc n) (x ∷ xs) le = ap (λ ys. x ∷ ys) (take-all n xs (omega (le, arith)))

pub not_named : (c : Component) (o : Option Component) → is_some o ≡ false → is_named c o ≡ false
not_named c None none = refl
not_named c (Some d) none = absurd (false≢true (sym none))
