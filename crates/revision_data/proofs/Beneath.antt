-- What is beneath a path is one run of a map in the order of components.
use Rattle.std.proofs.Common.{◌≡◌, Bool, true, false, cond, ◌&&◌, ◌||◌, List, [], ◌∷◌, ◌++◌, Some, refl, sym, ap, subst, ◌∙◌, append_assoc}
use Rattle.std.proofs.{lemmas.Bool.false≢true, lemmas.List.append-nil, lemmas.Map.Keys.{sorted_head, sorted_tail}}
use Rattle.std.specs.{BTreeMap.is_at, BTreeMap.Range.range_contains, List.{AllByRecursion, filter}, List.Sorted.IsStrictlySortedBy, Map.keys_of}
use Rattle.std.specs.{Ordering.{is_eq, is_le, is_lt}, Prelude.{is_some, not}, declared.cmp.Ordering.Ordering}
use Rattle.std.specs.{declared.cmp.Ordering.TheVariants.{Less, Equal, Greater}, declared.ops.Bound.TheVariants.{Excluded, Unbounded}}
use Rattle.svnpath.specs.PathLaws.{at_is, between_under, from_under, same_path_is, same_path_refl}
use Rattle.svnpath.specs.Paths.{is_at_or_under, path_cmp, path_ties, PathValue, same_path}
use Rattle.revision_data.specs.Found.{found, is_beneath, is_listed}

-- the paths of the entries at or under the path
abbrev pub under : {X : Type 0} → PathValue → List (PathValue × X) → List PathValue
under p es = keys_of (filter (λ e. is_at_or_under e.0 p) es)

abbrev pub behind : PathValue → PathValue → Bool
behind p k = range_contains path_cmp (Excluded p) Unbounded k

-- beneath a path is what is behind it, and under it
beneath_is : (p k : PathValue) → is_beneath p k ≡ (behind p k && is_at_or_under k p)
beneath_is p k = ap (λ b. not b && is_at_or_under k p) (path_ties p k) ∙ by (path_cmp p k) refl (is_at_or_under k p) refl
  where
    by : (o : Ordering) → path_cmp p k ≡ o → (u : Bool) → is_at_or_under k p ≡ u → (not (is_eq o) && u) ≡ ((is_lt o && true) && u)
    by Less is u up = refl
    by Equal is u up = refl
    by Greater is true up = absurd (false≢true (sym (ap is_le is) ∙ from_under p k up))
    by Greater is false up = refl

-- past a key that is not under the path, and behind it, none is
past : (p k m : PathValue) → behind p k ≡ true → is_at_or_under k p ≡ false → path_cmp k m ≡ Less → is_at_or_under m p ≡ false
past p k m late out less = by (is_at_or_under m p) refl
  where
    from : (o : Ordering) → (is_lt o && true) ≡ true → is_le o ≡ true
    from Less e = refl
    from Equal e = refl
    from Greater e = e

    by : (b : Bool) → is_at_or_under m p ≡ b → b ≡ false
    by true up = absurd (false≢true (sym out ∙ between_under p k m (from (path_cmp p k) late) (ap is_le less) up))
    by false e = refl

-- once a key is not under the path, none after it is
abbrev pub Ends : {X : Type 0} → PathValue → List (PathValue × X) → Type 0
Ends p [] = Unit {0}
Ends p (e ∷ es) = (is_at_or_under e.0 p ≡ false → under p es ≡ []) × Ends p es

none_step : {X : Type 0} (p : PathValue) (e : PathValue × X) (rest : List (PathValue × X)) → is_at_or_under e.0 p ≡ false
    → under p rest ≡ [] → (b : Bool) → under p (cond b (e ∷ rest) rest) ≡ []
none_step p e rest out none true = ap (λ b. keys_of (cond b (e ∷ filter (λ x. is_at_or_under x.0 p) rest) (filter (λ x. is_at_or_under x.0 p) rest))) out ∙ none
none_step p e rest out none false = none

none_past : {X : Type 0} (p k : PathValue) (es : List (PathValue × X)) → behind p k ≡ true → is_at_or_under k p ≡ false
    → AllByRecursion (λ y. path_cmp k y ≡ Less) (keys_of es) → under p (filter (λ e. behind p e.0) es) ≡ []
none_past p k [] late out later = refl
none_past p k (e ∷ es) late out later =
    none_step p e (filter (λ x. behind p x.0) es) (past p k e.0 late out later.0) (none_past p k es late out later.1) (behind p e.0)

ends_step : {X : Type 0} (p : PathValue) (e : PathValue × X) (rest : List (PathValue × X))
    → (behind p e.0 ≡ true → is_at_or_under e.0 p ≡ false → under p rest ≡ []) → Ends p rest
    → (b : Bool) → behind p e.0 ≡ b → Ends p (cond b (e ∷ rest) rest)
ends_step p e rest none ends true is = (none is, ends)
ends_step p e rest none ends false is = ends

pub ends_behind : {X : Type 0} (p : PathValue) (es : List (PathValue × X)) → IsStrictlySortedBy path_cmp (keys_of es)
    → Ends p (filter (λ e. behind p e.0) es)
ends_behind p [] sorted = tt
ends_behind p (e ∷ es) sorted =
    ends_step p e (filter (λ x. behind p x.0) es)
    (λ late out. none_past p e.0 es late out (sorted_head path_cmp e.0 (keys_of es) sorted))
    (ends_behind p es (sorted_tail path_cmp e.0 (keys_of es) sorted)) (behind p e.0) refl

pub ends_rest : {X : Type 0} (p : PathValue) (it : List (PathValue × X)) (x : PathValue × X) (rest : List (PathValue × X))
    → it ≡ x ∷ rest → Ends p it → Ends p rest
ends_rest p it x rest is ends = (subst (Ends p) is ends).1

-- one path of the run is listed, and the run ends
pub listed_one : {X : Type 0} (items : List PathValue) (p : PathValue) (it rest : List (PathValue × X)) (x : PathValue × X) (goal : List PathValue)
    → it ≡ x ∷ rest → is_at_or_under x.0 p ≡ true → items ++ under p it ≡ goal → (items ++ x.0 ∷ []) ++ under p rest ≡ goal
listed_one items p it rest x goal is up so =
    append_assoc items (x.0 ∷ []) (under p rest)
    ∙ ap (λ b. items ++ keys_of (cond b (x ∷ filter (λ y. is_at_or_under y.0 p) rest) (filter (λ y. is_at_or_under y.0 p) rest))) (sym up)
    ∙ ap (λ xs. items ++ under p xs) (sym is) ∙ so

pub listed_all : {X : Type 0} (items : List PathValue) (p : PathValue) (it rest : List (PathValue × X)) (x : PathValue × X) (goal : List PathValue)
    → it ≡ x ∷ rest → is_at_or_under x.0 p ≡ false → Ends p it → items ++ under p it ≡ goal → items ≡ goal
listed_all items p it rest x goal is out ends so =
    sym (append-nil items)
    ∙ ap (λ ys. items ++ ys) (sym ((subst (Ends p) is ends).0 out))
    ∙ ap (λ b. items ++ keys_of (cond b (x ∷ filter (λ y. is_at_or_under y.0 p) rest) (filter (λ y. is_at_or_under y.0 p) rest))) (sym out)
    ∙ ap (λ xs. items ++ under p xs) (sym is) ∙ so

-- what is listed so is beneath the path, and in the map
elsewhere : (k q : PathValue) → same_path k q ≡ false → is_at (path_cmp q) k ≡ false
elsewhere k q apart = by (is_at (path_cmp q) k) refl
  where
    by : (b : Bool) → is_at (path_cmp q) k ≡ b → b ≡ false
    by true is = absurd (false≢true (sym apart ∙ ap (λ (x : PathValue). same_path k x) (at_is q k is) ∙ same_path_refl k))
    by false is = refl

here : (k q : PathValue) → same_path k q ≡ true → is_at (path_cmp q) k ≡ true
here k q same = ap (λ (x : PathValue). is_at (path_cmp q) x) (same_path_is k q same) ∙ sym (path_ties q q) ∙ same_path_refl q

listed_step : {X : Type 0} (p q : PathValue) (e : PathValue × X) (es rest : List (PathValue × X))
    → is_listed (under p rest) q ≡ (is_beneath p q && is_some (found es q))
    → (b : Bool) → behind p e.0 ≡ b → (u : Bool) → is_at_or_under e.0 p ≡ u → (s : Bool) → same_path e.0 q ≡ s
    → is_listed (under p (cond b (e ∷ rest) rest)) q ≡ (is_beneath p q && is_some (found (e ∷ es) q))
listed_step p q e es rest ih b late u up true same =
    first ∙ ap (λ x. is_beneath p q && is_some (cond x (Some e.1) (found es q))) (sym (here e.0 q same))
  where
    is : is_beneath p q ≡ (b && u)
    is = ap (λ (x : PathValue). is_beneath p x) (sym (same_path_is e.0 q same)) ∙ beneath_is p e.0 ∙ (λ i. late i && up i)

    by : (b u : Bool) → is_at_or_under e.0 p ≡ u → is_beneath p q ≡ (b && u) → is_listed (under p (cond b (e ∷ rest) rest)) q ≡ (is_beneath p q && true)
    by true true up is =
        ap (λ (x : Bool). is_listed (keys_of (cond x (e ∷ filter (λ y. is_at_or_under y.0 p) rest) (filter (λ y. is_at_or_under y.0 p) rest))) q) up
        ∙ ap (λ (x : Bool). x || is_listed (under p rest) q) same ∙ ap (λ (x : Bool). x && true) (sym is)
    by true false up is =
        ap (λ (x : Bool). is_listed (keys_of (cond x (e ∷ filter (λ y. is_at_or_under y.0 p) rest) (filter (λ y. is_at_or_under y.0 p) rest))) q) up
        ∙ ih ∙ ap (λ (x : Bool). x && is_some (found es q)) is ∙ ap (λ (x : Bool). x && true) (sym is)
    by false u up is = ih ∙ ap (λ (x : Bool). x && is_some (found es q)) is ∙ ap (λ (x : Bool). x && true) (sym is)

    first : is_listed (under p (cond b (e ∷ rest) rest)) q ≡ (is_beneath p q && true)
    first = by b u up is
listed_step p q e es rest ih b late u up false apart =
    by b u up ∙ ih ∙ ap (λ x. is_beneath p q && is_some (cond x (Some e.1) (found es q))) (sym (elsewhere e.0 q apart))
  where
    by : (b u : Bool) → is_at_or_under e.0 p ≡ u → is_listed (under p (cond b (e ∷ rest) rest)) q ≡ is_listed (under p rest) q
    by true true up =
        ap (λ (x : Bool). is_listed (keys_of (cond x (e ∷ filter (λ y. is_at_or_under y.0 p) rest) (filter (λ y. is_at_or_under y.0 p) rest))) q) up
        ∙ ap (λ (x : Bool). x || is_listed (under p rest) q) apart
    by true false up =
        ap (λ (x : Bool). is_listed (keys_of (cond x (e ∷ filter (λ y. is_at_or_under y.0 p) rest) (filter (λ y. is_at_or_under y.0 p) rest))) q) up
    by false u up = refl

none_of : (b : Bool) → false ≡ (b && false)
none_of true = refl
none_of false = refl

pub listed_is : {X : Type 0} (p q : PathValue) (es : List (PathValue × X))
    → is_listed (under p (filter (λ e. behind p e.0) es)) q ≡ (is_beneath p q && is_some (found es q))
listed_is p q [] = none_of (is_beneath p q)
listed_is p q (e ∷ es) =
    listed_step p q e es (filter (λ x. behind p x.0) es) (listed_is p q es) (behind p e.0) refl (is_at_or_under e.0 p) refl (same_path e.0 q) refl
