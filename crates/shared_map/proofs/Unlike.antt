-- Entries that are among others or listed.
use Rattle.std.proofs.Common.{◌≡◌, ◌<◌, ◌+◌, ◌⊎◌, inl, inr, ℕ, zero, suc, cond, length, get_or, take, map, arith, List, [], ◌∷◌, ◌++◌, Some, refl, sym, ap}
use Rattle.std.proofs.{Common.{subst, ◌∙◌}, lemmas.Bool.false≢true, lemmas.Option.none-some, lemmas.List.{map-append, take_more}}
use Rattle.std.proofs.lemmas.List.Elements.{All-from_recursion, All-contains, Contains-append_left, Contains-append_right, Contains-push}
use Rattle.std.specs.{Borrow.Bor, Map.Iter.deref, Prelude.T, List.{All, AllByRecursion, Contains}, FinMap.{get, from_sorted}, FinMap.Entries.{is_sorted, find}}
use Rattle.std.specs.{Ordering.{is_eq, is_lt, ordering_reverse}, declared.cmp.Ordering.Ordering, declared.cmp.Ordering.TheVariants.{Less, Equal, Greater}}
use Rattle.shared_map.specs.Entries.{by_bytes}
use Rattle.shared_map.proofs.{Copies.{read, same_some}, Maps.{total, same_name, map_get}, Ordered.all_append, Places.{here, one_found}}

pub all_weaker : {X : Type 0} (P Q : X → Type 0) → ((x : X) → P x → Q x) → (xs : List X) → AllByRecursion P xs → AllByRecursion Q xs
all_weaker P Q f [] h = tt
all_weaker P Q f (x ∷ xs) h = (f x h.0, all_weaker P Q f xs h.1)

all_one : {X : Type 0} (P : X → Type 0) (x : X) → P x → AllByRecursion P (x ∷ [])
all_one P x h = (h, tt)

-- ---- what stands at a place of a list that is lent

pub stands : {X : Type 0} (es : List (Bor X)) (k : ℕ) (b : Bor X) (e : X) → k < length es → b ≡ get_or es k b → b.now ≡ e → Contains (map deref es) e
stands [] k b e lt is same = absurd (omega (arith, lt))
stands (x ∷ es) zero b e lt is same =
    subst (Contains (map deref (x ∷ es))) (sym (ap deref is) ∙ same)
    (Contains-append_left (deref x ∷ []) (map deref es) (deref x) (Contains-push [] (deref x)))
stands (x ∷ es) (suc k) b e lt is same =
    Contains-append_right (deref x ∷ []) (map deref es) e (stands es k b e (omega (arith, lt)) is same)

pub turn : {X : Type 0} (es : List (Bor X)) (i : ℕ) (b : Bor X) → i < length es → b ≡ get_or es i b
    → map deref (take (i + 1) es) ≡ map deref (take i es) ++ b.now ∷ []
turn es i b lt is =
    ap (map deref) (take_more es i b lt) ∙ map-append deref (take i es) (get_or es i b ∷ [])
    ∙ ap (λ d. map deref (take i es) ++ deref d ∷ []) (sym is)

-- ---- one more entry

module _ {X : Type 0} (others : List X) where
  abbrev pub IsKnown : List X → X → Type 0
  IsKnown list e = Contains others e ⊎ Contains list e

  abbrev pub IsStep : List X → List X → X → Type 0
  IsStep list new e = (new ≡ list ++ e ∷ []) ⊎ (new ≡ list) × Contains others e

  pub from_more : (all list new : List X) (e : X) → Contains all e → AllByRecursion (Contains all) list → IsStep list new e → AllByRecursion (Contains all) new
  from_more all list new e at h (inl is) = subst (AllByRecursion (Contains all)) (sym is) (all_append (Contains all) list (e ∷ []) h (all_one (Contains all) e at))
  from_more all list new e at h (inr both) = subst (AllByRecursion (Contains all)) (sym both.0) h

  still_known : (list : List X) (e d : X) → IsKnown list d → IsKnown (list ++ e ∷ []) d
  still_known list e d (inl at) = inl at
  still_known list e d (inr at) = inr (Contains-append_left list (e ∷ []) d at)

  all_known : (done list new : List X) (e : X) → AllByRecursion (IsKnown list) done → IsStep list new e → AllByRecursion (IsKnown new) (done ++ e ∷ [])
  all_known done list new e h (inl is) =
      subst (λ l. AllByRecursion (IsKnown l) (done ++ e ∷ [])) (sym is)
      (all_append (IsKnown (list ++ e ∷ [])) done (e ∷ []) (all_weaker (IsKnown list) (IsKnown (list ++ e ∷ [])) (still_known list e) done h)
      (all_one (IsKnown (list ++ e ∷ [])) e (inr (Contains-push list e))))
  all_known done list new e h (inr both) =
      subst (λ l. AllByRecursion (IsKnown l) (done ++ e ∷ [])) (sym both.0)
      (all_append (IsKnown list) done (e ∷ []) h (all_one (IsKnown list) e (inl both.1)))

  pub known_more : (done more list new : List X) (e : X) → more ≡ done ++ e ∷ [] → AllByRecursion (IsKnown list) done → IsStep list new e → AllByRecursion (IsKnown new) more
  known_more done more list new e is h step = subst (AllByRecursion (IsKnown new)) (sym is) (all_known done list new e h step)

-- ---- lists of entries as maps

self : (r : Ordering) → r ≡ ordering_reverse r → r ≡ Equal
self Less h = absurd (false≢true (sym (ap is_lt h)))
self Equal h = refl
self Greater h = absurd (false≢true (ap is_lt h))

tie : (name : List ℕ) → by_bytes name name ≡ Equal
tie name = self (by_bytes name name) (total.antisymm name name)

found : {X : Type 0} (es : List (List ℕ × X)) → T (is_sorted by_bytes es) → (e : List ℕ × X) → Contains es e → find by_bytes e.0 es ≡ Some e.1
found es h e at =
    let is = read es at.0 e at.1 (sym at.2) in
    one_found es e.0 at.0 e is (tie e.0) (here es h e.0 at.0 e is (tie e.0))

pair : {X : Type 0} (d e : List ℕ × X) → d.0 ≡ e.0 → d.1 ≡ e.1 → d ≡ e
pair d e p q = λ i. (p i, q i)

listed_in : {X : Type 0} (e : List ℕ × X) (es : List (List ℕ × X)) (name : List ℕ) (v : X) (r : Ordering) → by_bytes name e.0 ≡ r
    → cond (is_eq r) (Some e.1) (find by_bytes name es) ≡ Some v → (find by_bytes name es ≡ Some v → Contains es (name, v)) → Contains (e ∷ es) (name, v)
listed_in e es name v Less at is rest = Contains-append_right (e ∷ []) es (name, v) (rest is)
listed_in e es name v Greater at is rest = Contains-append_right (e ∷ []) es (name, v) (rest is)
listed_in e es name v Equal at is rest =
    subst (Contains (e ∷ es)) (pair e (name, v) (sym (same_name name e.0 at)) (same_some e.1 v is))
    (Contains-append_left (e ∷ []) es e (Contains-push [] e))

listed : {X : Type 0} (es : List (List ℕ × X)) (name : List ℕ) (v : X) → find by_bytes name es ≡ Some v → Contains es (name, v)
listed [] name v is = absurd (none-some v is)
listed (e ∷ es) name v is = listed_in e es name v (by_bytes name e.0) refl is (λ h. listed es name v h)

module _ {X : Type 0} (es : List (List ℕ × X)) (h : T (is_sorted by_bytes es)) where
  pub had : (ds : List (List ℕ × X)) → AllByRecursion (Contains es) ds → All (λ e. get (from_sorted {R = by_bytes} es) e.0 ≡ Some e.1) ds
  had ds all =
      All-from_recursion (λ e. get (from_sorted {R = by_bytes} es) e.0 ≡ Some e.1) ds
      (all_weaker (Contains es) (λ e. get (from_sorted {R = by_bytes} es) e.0 ≡ Some e.1) (λ e at. map_get e.0 es h ∙ found es h e at) ds all)

  either : (ds : List (List ℕ × X)) (name : List ℕ) (v : X) → Contains es (name, v) ⊎ Contains ds (name, v)
      → (get (from_sorted {R = by_bytes} es) name ≡ Some v) ⊎ Contains ds (name, v)
  either ds name v (inl at) = inl (map_get name es h ∙ found es h (name, v) at)
  either ds name v (inr at) = inr at

pub had_or_listed : {X : Type 0} (es os ds : List (List ℕ × X)) → T (is_sorted by_bytes es) → T (is_sorted by_bytes os)
    → AllByRecursion (λ e. Contains os e ⊎ Contains ds e) es → (name : List ℕ) (v : X) → get (from_sorted {R = by_bytes} es) name ≡ Some v
    → (get (from_sorted {R = by_bytes} os) name ≡ Some v) ⊎ Contains ds (name, v)
had_or_listed es os ds h k all name v is =
    either os k ds name v
    (All-contains (λ e. Contains os e ⊎ Contains ds e) es (name, v) (All-from_recursion (λ e. Contains os e ⊎ Contains ds e) es all)
    (listed es name v (sym (map_get name es h) ∙ is)))
