-- Sets of names, and the names of what stands straight beneath a path.
use Rattle.std.proofs.Common.{◌≡◌, arith, ℕ, zero, suc, ◌≤◌, Bool, true, false, cond, ◌||◌, List, [], ◌∷◌, ◌++◌, length, drop, map, take, Option, Some, None}
use Rattle.std.proofs.{Common.{refl, sym, ap, ◌∙◌}, lemmas.Bool.{false≢true, or_left, or_right}}
use Rattle.std.specs.{BTreeMap.is_at, BTreeSet.insert_key, Cmp.Lexicographic.{slice_cmp, texts_ties}, List.{list_any, cons_option}}
use Rattle.std.specs.{Ordering.{nat_cmp, is_eq, match_ordering}, Prelude.IsSome, FinMap.{get, keys, contains_key-keys}, declared.cmp.Ordering.Ordering}
use Rattle.std.specs.declared.cmp.Ordering.TheVariants.{Less, Equal, Greater}
use Rattle.svnpath.specs.PathLaws.{rest_append, same_component_is, same_component_refl, same_path_is, under_append}
use Rattle.svnpath.specs.Paths.{Component, path_ties, PathValue, same_component, same_path}
use Rattle.repo_api.specs.{Readings.{is_name_among, name_in, names_among, names_in, sole}, States.TreeMap}
use denote.Ref.{Bor}

-- ---- a set of names

or_swap : (a b : Bool) → (a || b) ≡ (b || a)
or_swap true true = refl
or_swap true false = refl
or_swap false true = refl
or_swap false false = refl

or_twice : (a b : Bool) → (a || b) ≡ ((a || b) || a)
or_twice true b = refl
or_twice false true = refl
or_twice false false = refl

or_behind : (a b c : Bool) → (a || (b || c)) ≡ ((a || b) || c)
or_behind true b c = refl
or_behind false b c = refl

-- what an insertion adds
pub among_inserted : (names : List Component) (x c : Component) → is_name_among (insert_key (slice_cmp nat_cmp) names x) c ≡ (is_name_among names c || same_component c x)
among_inserted [] x c = or_swap (same_component c x) false
among_inserted (y ∷ names) x c = by (slice_cmp nat_cmp x y) refl (among_inserted names x c)
  where
    by : (o : Ordering) → slice_cmp nat_cmp x y ≡ o → is_name_among (insert_key (slice_cmp nat_cmp) names x) c ≡ (is_name_among names c || same_component c x)
        → is_name_among (match_ordering o (x ∷ y ∷ names) (y ∷ names) (y ∷ insert_key (slice_cmp nat_cmp) names x)) c ≡ ((same_component c y || is_name_among names c) || same_component c x)
    by Less is rest = or_swap (same_component c x) (same_component c y || is_name_among names c)
    by Equal is rest =
        or_twice (same_component c y) (is_name_among names c)
        ∙ ap (λ t. (same_component c y || is_name_among names c) || same_component c t) (sym (same_component_is x y (texts_ties x y ∙ ap is_eq is)))
    by Greater is rest =
        ap (λ b. same_component c y || b) rest ∙ or_behind (same_component c y) (is_name_among names c) (same_component c x)

-- what a query of a set says
pub query_is : (c : Component) (names : List Component) → list_any (is_at (slice_cmp nat_cmp c)) names ≡ is_name_among names c
query_is c [] = refl
query_is c (x ∷ names) = ap (λ b. b || list_any (is_at (slice_cmp nat_cmp c)) names) (sym (texts_ties c x)) ∙ ap (λ b. same_component c x || b) (query_is c names)

-- ---- names of what stands in a tree

name_of_child : (p : PathValue) (c : Component) → name_in p (p ++ c ∷ []) ≡ Some c
name_of_child p c =
    ap (λ b. sole (cond b (drop (length p) (p ++ c ∷ [])) [])) (under_append p (c ∷ [])) ∙ ap sole (rest_append p (c ∷ []))

-- a path that is among others has its name among theirs
among_names : (p : PathValue) (c : Component) (paths : List PathValue) → list_any (same_path (p ++ c ∷ [])) paths ≡ true → is_name_among (names_among p paths) c ≡ true
among_names p c [] h = absurd (false≢true h)
among_names p c (q ∷ qs) h = by (same_path (p ++ c ∷ []) q) refl (name_in p q) refl h (among_names p c qs)
  where
    with : Option Component → List Component
    with o = cons_option o (names_among p qs)

    by : (b : Bool) → same_path (p ++ c ∷ []) q ≡ b → (o : Option Component) → name_in p q ≡ o → (b || list_any (same_path (p ++ c ∷ [])) qs) ≡ true
        → (list_any (same_path (p ++ c ∷ [])) qs ≡ true → is_name_among (names_among p qs) c ≡ true) → is_name_among (with (name_in p q)) c ≡ true
    by true e o is h more =
        ap (λ x. is_name_among (with x) c) (ap (name_in p) (sym (same_path_is (p ++ c ∷ []) q e)) ∙ name_of_child p c)
        ∙ or_left (same_component c c) (is_name_among (names_among p qs) c) (same_component_refl c)
    by false e None is h more = ap (λ x. is_name_among (with x) c) is ∙ more h
    by false e (Some d) is h more = ap (λ x. is_name_among (with x) c) is ∙ or_right (same_component c d) (is_name_among (names_among p qs) c) (more h)

-- a map has something at its keys alone
key_found : (m : TreeMap) (p : PathValue) → IsSome (get m p) → list_any (same_path p) (keys m) ≡ true
key_found m p some = (λ i. list_any (λ k. path_ties p k i) (keys m)) ∙ sym (contains_key-keys m p) ∙ some

-- what stands in a tree straight beneath a path has its name among those of the path
pub among_there : (m : TreeMap) (p : PathValue) (c : Component) → IsSome (get m (p ++ c ∷ [])) → is_name_among (names_in m p) c ≡ true
among_there m p c some = among_names p c (keys m) (key_found m (p ++ c ∷ []) some)

-- ---- lists of names

-- names that are lent
pub among_lent : (names : List (Bor Component)) (c : Component) → list_any (λ (n : Bor Component). same_component c n.now) names ≡ is_name_among (map (λ (n : Bor Component). n.now) names) c
among_lent [] c = refl
among_lent (n ∷ names) c = ap (λ b. same_component c n.now || b) (among_lent names c)

-- one name more
pub with_name : (a b d e : Bool) → a ≡ (b || d) → (a || e) ≡ (b || (d || e))
with_name a b d e is = ap (λ x. x || e) is ∙ sym (or_behind b d e)

pub take-all : {X : Type 0} (n : ℕ) (xs : List X) → length xs ≤ n → take n xs ≡ xs
take-all zero [] le = refl
take-all zero (x ∷ xs) le = absurd (omega (le, arith))
take-all (suc n) [] le = refl
take-all (suc n) (x ∷ xs) le = ap (λ ys. x ∷ ys) (take-all n xs (omega (le, arith)))

-- nothing is among none
pub or_none : (b : Bool) → (b || false) ≡ b
or_none true = refl
or_none false = refl

-- a name that is there already adds nothing
pub already : (names : List Component) (n x : Component) → is_name_among names n ≡ true → is_name_among names x ≡ (is_name_among names x || same_component x n)
already names n x among = by (same_component x n) refl
  where
    by : (b : Bool) → same_component x n ≡ b → is_name_among names x ≡ (is_name_among names x || b)
    by true same = let here = ap (is_name_among names) (same_component_is x n same) ∙ among in here ∙ sym (or_left (is_name_among names x) true here)
    by false other = sym (or_none (is_name_among names x))
