-- Each number once.
use Rattle.std.proofs.Common.{◌≡◌, ◌<◌, ◌+◌, ℕ, Bool, true, false, not, List, [], ◌∷◌, ◌++◌, length, take, get_or, Option, Some, None, refl, sym, ap, ◌∙◌}
use Rattle.std.proofs.{Common.eq-eqb, lemmas.List.{append-nil, take_more}, lemmas.List.Elements.{filter-append, filter_map-append}}
use Rattle.std.proofs.lemmas.List.Folds.{list_any_more}
use Rattle.std.specs.{BTreeMap.is_at, Cmp.unsigned_tied, Ordering.nat_cmp, List.filter_map, Option.{option_map, option_to_list}}
use Rattle.std.specs.Prelude.{◌==◌, ◌||◌, if◌then◌else◌, filter, cond}
use borrow.Author.Tests.{eqb-true}
use Rattle.svnpath.specs.Paths.{PathValue}
use Rattle.repo_api.specs.States.{RepoState}
use Rattle.history.proofs.Steps.{not_equal}
use Rattle.traces.specs.declared.place.Place.{Place}
use Rattle.history.specs.{Logs.is_among, Locations.{each_once, located_in, location}}

same_turned : (m n : ℕ) (b : Bool) → (m == n) ≡ b → (n == m) ≡ b
same_turned m n true same = eq-eqb n m (sym (eqb-true m n same))
same_turned m n false other = not_equal n m (λ same. cc (sym other ∙ eq-eqb m n (sym same)))

-- one number more
once_push : (ns : List ℕ) (n : ℕ)
    → each_once (ns ++ n ∷ []) ≡ (if is_among n ns then each_once ns else each_once ns ++ n ∷ [])
once_push [] n = refl
once_push (m ∷ ns) n = by (once_push ns n) (m == n) (is_among n ns) refl refl
  where
    kept : List ℕ → List ℕ
    kept xs = filter (λ k. not (k == m)) xs

    by : each_once (ns ++ n ∷ []) ≡ (if is_among n ns then each_once ns else each_once ns ++ n ∷ [])
        → (b a : Bool) → (m == n) ≡ b → is_among n ns ≡ a
        → m ∷ filter (λ k. not (k == m)) (each_once (ns ++ n ∷ []))
        ≡ (if b || a then m ∷ filter (λ k. not (k == m)) (each_once ns) else (m ∷ filter (λ k. not (k == m)) (each_once ns)) ++ n ∷ [])
    by rest true true same among =
        ap (λ xs. m ∷ filter (λ k. not (k == m)) xs) (rest ∙ ap (λ x. if x then each_once ns else each_once ns ++ n ∷ []) among)
    by rest false true other among =
        ap (λ xs. m ∷ filter (λ k. not (k == m)) xs) (rest ∙ ap (λ x. if x then each_once ns else each_once ns ++ n ∷ []) among)
    by rest true false same new =
        ap (λ xs. m ∷ filter (λ k. not (k == m)) xs) (rest ∙ ap (λ x. if x then each_once ns else each_once ns ++ n ∷ []) new)
        ∙ ap (λ xs. m ∷ xs) (filter-append (λ k. not (k == m)) (each_once ns) (n ∷ []))
        ∙ ap (λ x. m ∷ (filter (λ k. not (k == m)) (each_once ns) ++ (if not x then n ∷ [] else []))) (same_turned m n true same)
        ∙ ap (λ xs. m ∷ xs) (append-nil (filter (λ k. not (k == m)) (each_once ns)))
    by rest false false other new =
        ap (λ xs. m ∷ filter (λ k. not (k == m)) xs) (rest ∙ ap (λ x. if x then each_once ns else each_once ns ++ n ∷ []) new)
        ∙ ap (λ xs. m ∷ xs) (filter-append (λ k. not (k == m)) (each_once ns) (n ∷ []))
        ∙ ap (λ x. m ∷ (filter (λ k. not (k == m)) (each_once ns) ++ (if not x then n ∷ [] else []))) (same_turned m n false other)

once_more : (xs : List ℕ) (i : ℕ) → i < length xs → (a : Bool) → is_among (get_or xs i 0) (take i xs) ≡ a
    → each_once (take (i + 1) xs) ≡ (if a then each_once (take i xs) else each_once (take i xs) ++ get_or xs i 0 ∷ [])
once_more xs i within a test =
    ap each_once (take_more xs i 0 within) ∙ once_push (take i xs) (get_or xs i 0)
    ∙ ap (λ b. if b then each_once (take i xs) else each_once (take i xs) ++ get_or xs i 0 ∷ []) test

-- a number that was not seen, and one that was
pub once_new : (xs : List ℕ) (i : ℕ) → i < length xs → is_among (get_or xs i 0) (take i xs) ≡ false
    → each_once (take (i + 1) xs) ≡ each_once (take i xs) ++ get_or xs i 0 ∷ []
once_new xs i within test = once_more xs i within false test

pub once_again : (xs : List ℕ) (i : ℕ) → i < length xs → is_among (get_or xs i 0) (take i xs) ≡ true
    → each_once (take (i + 1) xs) ≡ each_once (take i xs)
once_again xs i within test = once_more xs i within true test

either_way : (a b : Bool) → cond a true b ≡ (b || a)
either_way true true = refl
either_way true false = refl
either_way false true = refl
either_way false false = refl

-- what a set has that has one number more
pub seen_more : (xs : List ℕ) (i k : ℕ) (old : Bool) → i < length xs → old ≡ is_among k (take i xs)
    → cond (is_at (nat_cmp (get_or xs i 0)) k) true old ≡ is_among k (take (i + 1) xs)
seen_more xs i k old within was =
    ap (λ b. cond b true old) (unsigned_tied (get_or xs i 0) k)
    ∙ ap (λ b. cond (get_or xs i 0 == k) true b) was
    ∙ either_way (get_or xs i 0 == k) (is_among k (take i xs))
    ∙ sym (list_any_more (λ m. m == k) xs i 0 within)

-- a number that a set had not
pub not_seen : (added old among : Bool) → added ≡ not old → added ≡ true → old ≡ among → among ≡ false
not_seen added true among is new was = cc
not_seen added false among is new was = sym was

-- and one that it had
pub was_seen : (added old among : Bool) → added ≡ not old → added ≡ false → old ≡ among → among ≡ true
was_seen added true among is old was = sym was
was_seen added false among is old was = cc

-- what one number more gives
given_more : {Y : Type 0} (f : ℕ → Option Y) (xs : List ℕ) (i : ℕ) → i < length xs → (o : Option Y) → f (get_or xs i 0) ≡ o
    → filter_map f (take (i + 1) xs) ≡ filter_map f (take i xs) ++ option_to_list o
given_more f xs i within None is =
    ap (filter_map f) (take_more xs i 0 within) ∙ filter_map-append f (take i xs) (get_or xs i 0 ∷ [])
    ∙ ap (λ ys. filter_map f (take i xs) ++ ys) (simp is)
given_more f xs i within (Some y) is =
    ap (filter_map f) (take_more xs i 0 within) ∙ filter_map-append f (take i xs) (get_or xs i 0 ∷ [])
    ∙ ap (λ ys. filter_map f (take i xs) ++ ys) (simp is)

-- the path of a place in one revision more, if it has one
pub located_some : (c : RepoState) (at : Place) (xs : List ℕ) (i : ℕ) → i < length xs → (found pushed new : List (ℕ × PathValue)) (o : Option PathValue) (p : PathValue)
    → new ≡ pushed → pushed ≡ found ++ (get_or xs i 0, p) ∷ [] → found ≡ filter_map (located_in c at) (take i xs)
    → o ≡ location c at (get_or xs i 0) → o ≡ Some p → new ≡ filter_map (located_in c at) (take (i + 1) xs)
located_some c at xs i within found pushed new o p same more so_far is there =
    same ∙ more ∙ ap (λ (ys : List (ℕ × PathValue)). ys ++ (get_or xs i 0, p) ∷ []) so_far
    ∙ sym (given_more (located_in c at) xs i within (Some (get_or xs i 0, p)) (ap (option_map (λ (q : PathValue). (get_or xs i 0, q))) (sym is ∙ there)))

pub located_none : (c : RepoState) (at : Place) (xs : List ℕ) (i : ℕ) → i < length xs → (found new : List (ℕ × PathValue)) (o : Option PathValue)
    → new ≡ found → found ≡ filter_map (located_in c at) (take i xs) → o ≡ location c at (get_or xs i 0) → o ≡ None
    → new ≡ filter_map (located_in c at) (take (i + 1) xs)
located_none c at xs i within found new o same so_far is there =
    same ∙ so_far ∙ sym (append-nil (filter_map (located_in c at) (take i xs)))
    ∙ sym (given_more (located_in c at) xs i within None (ap (option_map (λ (q : PathValue). (get_or xs i 0, q))) (sym is ∙ there)))
