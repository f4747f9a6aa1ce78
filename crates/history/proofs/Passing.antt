-- Revisions in which nothing happens to a place are passed over.
use Rattle.std.proofs.Common.{◌≡◌, ◌≤◌, ◌<◌, ◌-◌, ℕ, zero, suc, Bool, true, false, List, [], ◌∷◌, ◌++◌, Some, None, arith, refl, sym, ap, ◌∙◌, reverse, max}
use Rattle.std.proofs.{lemmas.Bool.false≢true, lemmas.List.reverse-append}
use Rattle.std.proofs.lemmas.List.Elements.{All-nil, All-cons, All-head, All-tail, All-same, All-push, All-weaker, All-contains_itself}
use Rattle.std.proofs.lemmas.List.Folds.{list_any_none}
use Rattle.std.specs.{List.{All, Contains, find, list_any}, Prelude.{if◌then◌else◌, nat_le, ◌==◌, ◌&&◌, ◌||◌}}
use borrow.Author.Tests.{eqb-true, eqb-false}
use Rattle.svnpath.specs.Paths.{Component, is_at_or_under, PathValue}
use Rattle.repo_api.specs.Histories.{Changed, History, IsQuiet, IsQuietSince}
use Rattle.traces.specs.Traces.{makes, decides, deciding_change, earlier, place_by, is_from, is_copy_by, next_place, trace, trace_below}
use Rattle.traces.specs.{declared.place.Place.Place, Touching.{is_touched, touches}}
use Rattle.history.specs.{Logs.{listed, place_at}, Locations.path_in, Gathered.GoesOn, Unconcerned.{concerns, IsUnconcerned}}
use Rattle.history.proofs.Steps.{trace_is, listed_by, not_equal, path_past}

pub reversed : {X : Type 0} (P : X → Type 0) (xs : List X) → All P xs → All P (reverse xs)
reversed P [] all = All-nil P
reversed P (x ∷ xs) all =
    All-same P (reverse (x ∷ xs)) (reverse xs ++ x ∷ []) (reverse-append (x ∷ []) xs)
    (All-push P (reverse xs) x (reversed P xs (All-tail P x xs all)) (All-head P x xs all))

none_found : {X : Type 0} (test : X → Bool) (xs : List X) → All (λ x. test x ≡ false) xs → find test xs ≡ None
none_found test [] all = refl
none_found test (x ∷ xs) all =
    ap (λ b. if b then Some x else find test xs) (All-head (λ x. test x ≡ false) x xs all) ∙ none_found test xs (All-tail (λ x. test x ≡ false) x xs all)

pub never : (b : Bool) → (b ≡ true → ⊥) → b ≡ false
never true not_so = absurd (not_so refl)
never false not_so = refl

-- what holds of each change that there is
of_each : (changes : List Changed) (P : Changed → Type 0) → ((e : Changed) → Contains changes e → P e) → All P changes
of_each changes P each = All-weaker (Contains changes) P each changes (All-contains_itself changes)

pub none_decides : (changes : List Changed) (p : PathValue) → IsQuiet changes p → deciding_change changes p ≡ None
none_decides changes p quiet =
    none_found (decides p) (reverse changes)
    (reversed (λ e. decides p e ≡ false) changes
    (of_each changes (λ e. decides p e ≡ false) (λ e there. last (makes e.1.action) (is_at_or_under p e.0) (never (is_at_or_under p e.0) (quiet.above e there)))))
  where
    last : (a b : Bool) → b ≡ false → (a && b) ≡ false
    last true b is = is
    last false b is = refl

untouched : (changes : List Changed) (c : Component) (p : PathValue) → IsQuiet changes (c ∷ p) → is_touched changes (c ∷ p) ≡ false
untouched changes c p quiet =
    list_any_none (touches (c ∷ p)) changes
    (of_each changes (λ e. touches (c ∷ p) e ≡ false)
    (λ e there. neither (is_at_or_under e.0 (c ∷ p)) (is_from e.1.source) (is_at_or_under (c ∷ p) e.0) (never (is_at_or_under e.0 (c ∷ p)) (quiet.beneath e there))
    (never (is_at_or_under (c ∷ p) e.0) (quiet.above e there))))
  where
    neither : (a b d : Bool) → a ≡ false → d ≡ false → (a || (b && d)) ≡ false
    neither true b d first second = first
    neither false true d first second = second
    neither false false d first second = refl

-- the place before is that in the revision before
place_earlier : (strict : Bool) (changes : List Changed) (p : PathValue) (n : ℕ) → deciding_change changes p ≡ None → next_place strict changes (place_at (suc n) p) ≡ Some (place_at n p)
place_earlier strict changes p n undecided =
    ap (λ o. if strict && is_copy_by o then None else place_by o (place_at (suc n) p)) undecided
    ∙ uncopied strict
    ∙ ap (λ k. Some (place_at k p)) fewer
  where
    not_first : earlier p (suc n) ≡ Some (place_at (suc n - 1) p)
    not_first = ap (λ b. if b then None else Some (place_at (suc n - 1) p)) (not_equal (suc n) 0 (λ same. omega (arith, same)))

    uncopied : (b : Bool) → (if b && false then None else place_by None (place_at (suc n) p)) ≡ Some (place_at (suc n - 1) p)
    uncopied true = not_first
    uncopied false = not_first

    fewer : suc n - 1 ≡ n
    fewer = omega arith

pub trace_undecided : (h : History) (strict : Bool) (p : PathValue) (n : ℕ) → deciding_change (h (suc n)) p ≡ None
    → trace h strict (place_at (suc n) p) ≡ place_at (suc n) p ∷ trace h strict (place_at n p)
trace_undecided h strict p n undecided =
    trace_is h strict (place_at (suc n) p) ∙ ap (λ o. place_at (suc n) p ∷ trace_below h strict (suc n) o) (place_earlier strict (h (suc n)) p n undecided)

pub trace_earlier : (h : History) (strict : Bool) (p : PathValue) (n : ℕ) → IsQuiet (h (suc n)) p
    → trace h strict (place_at (suc n) p) ≡ place_at (suc n) p ∷ trace h strict (place_at n p)
trace_earlier h strict p n quiet = trace_undecided h strict p n (none_decides (h (suc n)) p quiet)

-- one revision that does not concern the path
pub listed_unconcerned : (h : History) (strict : Bool) (low : ℕ) (p : PathValue) (m : ℕ) → 0 < m → IsUnconcerned (h m) p
    → listed h low (trace h strict (place_at m p)) ≡ listed h low (trace h strict (place_at (m - 1) p))
listed_unconcerned h strict low p zero some is = absurd (omega (arith, some))
listed_unconcerned h strict low p (suc n) some is =
    ap (listed h low) (trace_undecided h strict p n is.undecided)
    ∙ listed_by h low (place_at (suc n) p) (trace h strict (place_at n p)) false (both (nat_le low (suc n)) (is_touched (h (suc n)) p) is.untouched)
    ∙ ap (λ k. listed h low (trace h strict (place_at k p))) fewer
  where
    both : (a b : Bool) → b ≡ false → (a && b) ≡ false
    both true b is = is
    both false b is = refl

    fewer : n ≡ suc n - 1
    fewer = omega arith

-- a revision none of whose changes concerns the path
pub each_fails : {X : Type 0} (test : X → Bool) (xs : List X) → list_any test xs ≡ false → All (λ x. test x ≡ false) xs
each_fails test [] none = All-nil (λ x. test x ≡ false)
each_fails test (x ∷ xs) none = All-cons (λ y. test y ≡ false) x xs (first (test x) (list_any test xs) none) (each_fails test xs (second (test x) (list_any test xs) none))
  where
    first : (a b : Bool) → (a || b) ≡ false → a ≡ false
    first true b is = is
    first false b is = refl

    second : (a b : Bool) → (a || b) ≡ false → b ≡ false
    second true b is = absurd (false≢true (sym is))
    second false b is = is

pub unconcerned : (changes : List Changed) (p : PathValue) → (p ≡ [] → ⊥) → list_any (concerns p) changes ≡ false → IsUnconcerned changes p
unconcerned changes [] named none = absurd (named refl)
unconcerned changes (c ∷ p) named none = record {
  untouched =
      list_any_none (touches (c ∷ p)) changes
      (All-weaker (λ e. concerns (c ∷ p) e ≡ false) (λ e. touches (c ∷ p) e ≡ false)
      (λ e fails. no_touch (is_at_or_under e.0 (c ∷ p)) (is_from e.1.source) (makes e.1.action) (is_at_or_under (c ∷ p) e.0) fails) changes (each_fails (concerns (c ∷ p)) changes none));
  undecided =
      none_found (decides (c ∷ p)) (reverse changes)
      (reversed (λ e. decides (c ∷ p) e ≡ false) changes
      (All-weaker (λ e. concerns (c ∷ p) e ≡ false) (λ e. decides (c ∷ p) e ≡ false)
      (λ e fails. no_make (is_at_or_under e.0 (c ∷ p)) (is_from e.1.source) (makes e.1.action) (is_at_or_under (c ∷ p) e.0) fails) changes (each_fails (concerns (c ∷ p)) changes none)));
}
  where
    no_touch : (a s m u : Bool) → (a || ((s || m) && u)) ≡ false → (a || (s && u)) ≡ false
    no_touch true s m u is = is
    no_touch false true m u is = is
    no_touch false false m u is = refl

    no_make : (a s m u : Bool) → (a || ((s || m) && u)) ≡ false → (m && u) ≡ false
    no_make a s false u is = refl
    no_make true s true u is = absurd (false≢true (sym is))
    no_make false true true u is = is
    no_make false false true u is = is

-- what a log lists of the place
pub listed_since : (h : History) (strict : Bool) (low : ℕ) (c : Component) (p : PathValue) (k n : ℕ) → k ≤ n → IsQuietSince h (c ∷ p) k n
    → listed h low (trace h strict (place_at n (c ∷ p))) ≡ listed h low (trace h strict (place_at k (c ∷ p)))
listed_since h strict low c p k zero within quiet =
    let same : zero ≡ k = omega (arith, within) in
    ap (λ m. listed h low (trace h strict (place_at m (c ∷ p)))) same
listed_since h strict low c p k (suc n) within quiet = by (λ lower. listed_since h strict low c p k n lower (λ m after upto. quiet m after (omega (arith, upto)))) (k == suc n) refl
  where
    both : (a b : Bool) → b ≡ false → (a && b) ≡ false
    both true b is = is
    both false b is = refl

    by : (k ≤ n → listed h low (trace h strict (place_at n (c ∷ p))) ≡ listed h low (trace h strict (place_at k (c ∷ p)))) → (b : Bool) → (k == suc n) ≡ b
        → listed h low (trace h strict (place_at (suc n) (c ∷ p))) ≡ listed h low (trace h strict (place_at k (c ∷ p)))
    by rest true same = ap (λ m. listed h low (trace h strict (place_at m (c ∷ p)))) (sym (eqb-true k (suc n) same))
    by rest false other =
        let past : k ≡ suc n → ⊥ = eqb-false k (suc n) other in
        let now : IsQuiet (h (suc n)) (c ∷ p) = quiet (suc n) (omega (arith, within, past)) (omega arith) in
        ap (listed h low) (trace_earlier h strict (c ∷ p) n now)
        ∙ listed_by h low (place_at (suc n) (c ∷ p)) (trace h strict (place_at n (c ∷ p))) false
        (both (nat_le low (suc n)) (is_touched (h (suc n)) (c ∷ p)) (untouched (h (suc n)) c p now))
        ∙ rest (omega (arith, within, past))

-- and where it is in a revision that is not above
pub path_since : (h : History) (strict : Bool) (r : ℕ) (p : PathValue) (k n : ℕ) → r ≤ k → k ≤ n → IsQuietSince h p k n
    → path_in r (trace h strict (place_at n p)) ≡ path_in r (trace h strict (place_at k p))
path_since h strict r p k zero low within quiet =
    let same : zero ≡ k = omega (arith, within) in
    ap (λ m. path_in r (trace h strict (place_at m p))) same
path_since h strict r p k (suc n) low within quiet = by (λ lower. path_since h strict r p k n low lower (λ m after upto. quiet m after (omega (arith, upto)))) (k == suc n) refl
  where
    by : (k ≤ n → path_in r (trace h strict (place_at n p)) ≡ path_in r (trace h strict (place_at k p))) → (b : Bool) → (k == suc n) ≡ b
        → path_in r (trace h strict (place_at (suc n) p)) ≡ path_in r (trace h strict (place_at k p))
    by rest true same = ap (λ m. path_in r (trace h strict (place_at m p))) (sym (eqb-true k (suc n) same))
    by rest false other =
        let past : k ≡ suc n → ⊥ = eqb-false k (suc n) other in
        let now : IsQuiet (h (suc n)) p = quiet (suc n) (omega (arith, within, past)) (omega arith) in
        path_past h strict r (place_at (suc n) p) (trace h strict (place_at n p)) (trace_earlier h strict p n now) (omega (arith, low, within, past))
        ∙ rest (omega (arith, within, past))

-- of a place that is settled
pub listed_settled : (h : History) (strict : Bool) (low : ℕ) (at : Place) (k : ℕ) → (at.path ≡ [] → ⊥) → k ≤ at.revision → IsQuietSince h at.path k at.revision
    → listed h low (trace h strict at) ≡ listed h low (trace h strict (place_at k at.path))
listed_settled h strict low at k named within quiet = by at.path named quiet
  where
    by : (p : PathValue) → (p ≡ [] → ⊥) → IsQuietSince h p k at.revision → listed h low (trace h strict (place_at at.revision p)) ≡ listed h low (trace h strict (place_at k p))
    by [] named quiet = absurd (named refl)
    by (c ∷ p) named quiet = listed_since h strict low c p k at.revision within quiet

-- of a place that is settled, in each revision up to one
pub goes_settled : (h : History) (at : Place) (r k j : ℕ) → j ≡ max k r → r ≤ at.revision → k ≤ at.revision → IsQuietSince h at.path k at.revision → GoesOn h (Some at) r (Some (place_at j at.path))
goes_settled h at r k j is low within quiet n upto =
    sym (path_since h false n at.path j at.revision (omega (arith, is, upto)) (omega (arith, is, low, within)) (λ m after below. quiet m (omega (arith, is, after)) below))
