-- What is at or under a path is one run of a map in the order of components.
use Rattle.std.proofs.{Common.{◌≡◌, Bool, true, false, cond, ◌&&◌, List, [], ◌∷◌, ◌++◌, map, refl, sym, ap, subst, ◌∙◌, append_assoc}, lemmas.Bool.false≢true}
use Rattle.std.proofs.{lemmas.List.{append-nil, map_push}, lemmas.Map.Keys.{sorted_head, sorted_tail}}
use Rattle.std.specs.{BTreeMap.Range.range_contains, List.{AllByRecursion, filter}, List.Sorted.IsStrictlySortedBy, Map.keys_of, Ordering.is_le}
use Rattle.std.specs.{declared.cmp.Ordering.TheVariants.Less, declared.ops.Bound.TheVariants.{Included, Unbounded}}
use Rattle.svnpath.specs.{PathLaws.{between_under, from_under}, Paths.{is_at_or_under, path_cmp, PathValue}}

pub and_false : (b : Bool) → (b && false) ≡ false
and_false true = refl
and_false false = refl

first_of : (b : Bool) → (b && true) ≡ true → b ≡ true
first_of true h = refl
first_of false h = h

-- past a key that is not under the path, and not before it, none is
pub past : (p k m : PathValue) → is_le (path_cmp p k) ≡ true → is_at_or_under k p ≡ false → path_cmp k m ≡ Less → is_at_or_under m p ≡ false
past p k m le out lt = by (is_at_or_under m p) refl
  where
    by : (b : Bool) → is_at_or_under m p ≡ b → b ≡ false
    by true under = absurd (false≢true (sym out ∙ between_under p k m le (ap is_le lt) under))
    by false e = refl

-- once a key is not under the path, none after it is
abbrev pub Ends : {X : Type 0} → PathValue → List (PathValue × X) → Type 0
Ends p [] = Unit {0}
Ends p (e ∷ es) = (is_at_or_under e.0 p ≡ false → filter (λ x. is_at_or_under x.0 p) es ≡ []) × Ends p es

abbrev pub from : PathValue → PathValue → Bool
from p k = range_contains path_cmp (Included p) Unbounded k

none_step : {X : Type 0} (p : PathValue) (e : PathValue × X) (rest : List (PathValue × X)) → is_at_or_under e.0 p ≡ false → filter (λ x. is_at_or_under x.0 p) rest ≡ []
    → (b : Bool) → filter (λ x. is_at_or_under x.0 p) (cond b (e ∷ rest) rest) ≡ []
none_step p e rest out ih true = ap (λ b. cond b (e ∷ filter (λ x. is_at_or_under x.0 p) rest) (filter (λ x. is_at_or_under x.0 p) rest)) out ∙ ih
none_step p e rest out ih false = ih

none_past : {X : Type 0} (p k : PathValue) (es : List (PathValue × X)) → is_le (path_cmp p k) ≡ true → is_at_or_under k p ≡ false
    → AllByRecursion (λ y. path_cmp k y ≡ Less) (keys_of es) → filter (λ x. is_at_or_under x.0 p) (filter (λ e. from p e.0) es) ≡ []
none_past p k [] le out h = refl
none_past p k (e ∷ es) le out h = none_step p e (filter (λ x. from p x.0) es) (past p k e.0 le out h.0) (none_past p k es le out h.1) (from p e.0)

ends_step : {X : Type 0} (p : PathValue) (e : PathValue × X) (rest : List (PathValue × X)) → (is_le (path_cmp p e.0) ≡ true → is_at_or_under e.0 p ≡ false → filter (λ x. is_at_or_under x.0 p) rest ≡ [])
    → Ends p rest → (b : Bool) → from p e.0 ≡ b → Ends p (cond b (e ∷ rest) rest)
ends_step p e rest none ih true is = (λ out. none (first_of (is_le (path_cmp p e.0)) is) out, ih)
ends_step p e rest none ih false is = ih

pub ends_from : {X : Type 0} (p : PathValue) (es : List (PathValue × X)) → IsStrictlySortedBy path_cmp (keys_of es) → Ends p (filter (λ e. from p e.0) es)
ends_from p [] s = tt
ends_from p (e ∷ es) s =
    ends_step p e (filter (λ x. from p x.0) es) (λ le out. none_past p e.0 es le out (sorted_head path_cmp e.0 (keys_of es) s)) (ends_from p es (sorted_tail path_cmp e.0 (keys_of es) s)) (from p e.0) refl

from_step : {X : Type 0} (p : PathValue) (e : PathValue × X) (rest all : List (PathValue × X)) → filter (λ x. is_at_or_under x.0 p) rest ≡ all
    → (b : Bool) → from p e.0 ≡ b → (u : Bool) → is_at_or_under e.0 p ≡ u → filter (λ x. is_at_or_under x.0 p) (cond b (e ∷ rest) rest) ≡ cond (is_at_or_under e.0 p) (e ∷ all) all
from_step p e rest all ih true is u h = ap (λ xs. cond (is_at_or_under e.0 p) (e ∷ xs) xs) ih
from_step p e rest all ih false is true h = absurd (false≢true (sym is ∙ ap (λ b. b && true) (from_under p e.0 h)))
from_step p e rest all ih false is false h = ih ∙ ap (λ b. cond b (e ∷ all) all) (sym h)

-- what is under a path is all in the range that begins with it
pub under_from : {X : Type 0} (p : PathValue) (es : List (PathValue × X)) → filter (λ x. is_at_or_under x.0 p) (filter (λ e. from p e.0) es) ≡ filter (λ x. is_at_or_under x.0 p) es
under_from p [] = refl
under_from p (e ∷ es) = from_step p e (filter (λ x. from p x.0) es) (filter (λ x. is_at_or_under x.0 p) es) (under_from p es) (from p e.0) refl (is_at_or_under e.0 p) refl

-- one entry of the run is taken, and the run ends
pub kept : {R X : Type 0} (d : R → PathValue × X) (items : List R) (y : R) (p : PathValue) (it rest goal : List (PathValue × X)) → it ≡ d y ∷ rest → is_at_or_under (d y).0 p ≡ true
    → map d items ++ filter (λ x. is_at_or_under x.0 p) it ≡ goal → map d (items ++ y ∷ []) ++ filter (λ x. is_at_or_under x.0 p) rest ≡ goal
kept d items y p it rest goal is under so =
    ap (λ xs. xs ++ filter (λ x. is_at_or_under x.0 p) rest) (map_push d items y)
    ∙ append_assoc (map d items) (d y ∷ []) (filter (λ x. is_at_or_under x.0 p) rest)
    ∙ ap (λ b. map d items ++ cond b (d y ∷ filter (λ x. is_at_or_under x.0 p) rest) (filter (λ x. is_at_or_under x.0 p) rest)) (sym under)
    ∙ ap (λ xs. map d items ++ filter (λ x. is_at_or_under x.0 p) xs) (sym is)
    ∙ so

pub ended : {X : Type 0} (xs : List (PathValue × X)) (p : PathValue) (it : List (PathValue × X)) (x : PathValue × X) (rest goal : List (PathValue × X)) → it ≡ x ∷ rest → is_at_or_under x.0 p ≡ false → Ends p it
    → xs ++ filter (λ x. is_at_or_under x.0 p) it ≡ goal → xs ≡ goal
ended xs p it x rest goal is out ends so =
    sym (append-nil xs)
    ∙ ap (λ ys. xs ++ ys) (sym ((subst (Ends p) is ends).0 out))
    ∙ ap (λ b. xs ++ cond b (x ∷ filter (λ y. is_at_or_under y.0 p) rest) (filter (λ y. is_at_or_under y.0 p) rest)) (sym out)
    ∙ ap (λ ys. xs ++ filter (λ y. is_at_or_under y.0 p) ys) (sym is)
    ∙ so

pub ends_rest : {X : Type 0} (p : PathValue) (it : List (PathValue × X)) (x : PathValue × X) (rest : List (PathValue × X)) → it ≡ x ∷ rest → Ends p it → Ends p rest
ends_rest p it x rest is ends = (subst (Ends p) is ends).1
