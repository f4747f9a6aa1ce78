-- Which revisions the traces of places list.
use Rattle.std.proofs.Common.{◌≡◌, ◌<◌, ◌≤◌, ℕ, zero, suc, Bool, true, false, List, [], ◌∷◌, Option, Some, None, arith, refl, sym, ap, ◌∙◌}
use Rattle.std.specs.Prelude.{◌==◌, ◌&&◌, ◌||◌, nat_le}
use borrow.Author.Tests.{eqb-true, le-leb}
use Rattle.repo_api.specs.Histories.{History}
use Rattle.traces.specs.{Traces.{trace_below, trace, traced, next_place, IsBelow}, Touching.is_touched, declared.place.Place.Place}
use Rattle.history.specs.{Logs.{listed, is_listed, is_among, is_logged, found_from}, declared.listed.Listed.Listed}
use Rattle.history.proofs.Steps.{at_one, listed_by, not_equal}

-- one place more
among_one : (h : History) (low n : ℕ) (p : Place) (rest : List Place) (b : Bool) → is_listed h low p ≡ b
    → is_among n (listed h low (p ∷ rest)) ≡ ((b && (p.revision == n)) || is_among n (listed h low rest))
among_one h low n p rest true test = ap (is_among n) (listed_by h low p rest true test)
among_one h low n p rest false test = ap (is_among n) (listed_by h low p rest false test)

-- below a revision none that is not is listed
pub none_above : (h : History) (strict : Bool) (low n k : ℕ) (o : Option Place) → k ≤ n
    → is_among n (listed h low (trace_below h strict k o)) ≡ false
none_above h strict low n zero o under = refl
none_above h strict low n (suc k) None under = refl
none_above h strict low n (suc k) (Some p) under = by (λ o. none_above h strict low n k o (omega (arith, under))) (p.revision == k) refl
  where
    no_and : (a b : Bool) → b ≡ false → ((a && false) || b) ≡ false
    no_and true b is = is
    no_and false b is = is

    by : ((o : Option Place) → is_among n (listed h low (trace_below h strict k o)) ≡ false) → (b : Bool) → (p.revision == k) ≡ b
        → is_among n (listed h low (trace_below h strict (suc k) (Some p))) ≡ false
    by rest true same =
        let is : p.revision ≡ k = eqb-true p.revision k same in
        let other : (p.revision == n) ≡ false = not_equal p.revision n (λ e. omega (arith, under, is, e)) in
        ap (λ ps. is_among n (listed h low ps)) (at_one h strict k p true same)
        ∙ among_one h low n p (trace_below h strict k (next_place strict (h k) p)) (is_listed h low p) refl
        ∙ ap (λ b. (is_listed h low p && b) || is_among n (listed h low (trace_below h strict k (next_place strict (h k) p)))) other
        ∙ no_and (is_listed h low p) (is_among n (listed h low (trace_below h strict k (next_place strict (h k) p)))) (rest (next_place strict (h k) p))
    by rest false past = ap (λ ps. is_among n (listed h low ps)) (at_one h strict k p false past) ∙ rest (Some p)

-- a place's trace lists nothing above it
pub none_above_place : (h : History) (strict : Bool) (low n : ℕ) (p : Place) → p.revision < n → is_among n (listed h low (trace h strict p)) ≡ false
none_above_place h strict low n p lower = none_above h strict low n (suc p.revision) (Some p) (omega (arith, lower))

pub none_from_below : (h : History) (strict : Bool) (low n m : ℕ) (o : Option Place) → IsBelow m o → m ≤ n → is_among n (listed h low (traced h strict o)) ≡ false
none_from_below h strict low n m None below over = refl
none_from_below h strict low n m (Some p) below over =
    let lower : p.revision < m = below p refl in
    none_above_place h strict low n p (omega (arith, lower, over))

-- what a walk has found, and all that it will find, is not above that
pub none_past_head : (h : History) (strict : Bool) (low n : ℕ) (l : Listed) → l.revision < n → is_among n (found_from h strict low (Some l)) ≡ false
none_past_head h strict low n l lower =
    let other : (l.revision == n) ≡ false = not_equal l.revision n (λ e. omega (arith, lower, e)) in
    ap (λ b. b || is_among n (listed h low (traced h strict l.next))) other
    ∙ none_from_below h strict low n l.revision l.next l.below (omega (arith, lower))

-- from a revision on the same is listed as from 0 on
low_and : (low n : ℕ) (p : Place) (t : Bool) (x y : Bool) → y ≡ (nat_le low n && x)
    → (((nat_le low p.revision && t) && (p.revision == n)) || y) ≡ (nat_le low n && (((nat_le 0 p.revision && t) && (p.revision == n)) || x))
low_and low n p t x y is = by (p.revision == n) refl
  where
    least : nat_le 0 p.revision ≡ true
    least = le-leb 0 p.revision (omega arith)

    both : (a t x : Bool) → ((a && t) || (a && x)) ≡ (a && (t || x))
    both true t x = refl
    both false t x = refl

    true_last : (a : Bool) → (a && true) ≡ a
    true_last true = refl
    true_last false = refl

    false_last : (a : Bool) → (a && false) ≡ false
    false_last true = refl
    false_last false = refl

    by : (b : Bool) → (p.revision == n) ≡ b
        → (((nat_le low p.revision && t) && b) || y) ≡ (nat_le low n && (((nat_le 0 p.revision && t) && b) || x))
    by true same =
        ap (λ a. a || y) (true_last (nat_le low p.revision && t))
        ∙ ap (λ v. (nat_le low p.revision && t) || v) is
        ∙ ap (λ k. (nat_le low k && t) || (nat_le low n && x)) (eqb-true p.revision n same)
        ∙ both (nat_le low n) t x
        ∙ ap (λ a. nat_le low n && ((a && t) || x)) (sym least)
        ∙ ap (λ a. nat_le low n && (a || x)) (sym (true_last (nat_le 0 p.revision && t)))
    by false other =
        ap (λ a. a || y) (false_last (nat_le low p.revision && t))
        ∙ is
        ∙ ap (λ a. nat_le low n && (a || x)) (sym (false_last (nat_le 0 p.revision && t)))

pub among_from : (h : History) (low n : ℕ) (places : List Place) → is_among n (listed h low places) ≡ (nat_le low n && is_among n (listed h 0 places))
among_from h low n [] = nothing (nat_le low n)
  where
    nothing : (b : Bool) → false ≡ (b && false)
    nothing true = refl
    nothing false = refl
among_from h low n (p ∷ places) =
    among_one h low n p places (is_listed h low p) refl
    ∙ low_and low n p (is_touched (h p.revision) p.path) (is_among n (listed h 0 places)) (is_among n (listed h low places)) (among_from h low n places)
    ∙ ap (λ b. nat_le low n && b) (sym (among_one h 0 n p places (is_listed h 0 p) refl))

pub logged_from : (h : History) (strict : Bool) (low n : ℕ) (places : List Place) → is_logged h strict low places n ≡ (nat_le low n && is_logged h strict 0 places n)
logged_from h strict low n [] = nothing (nat_le low n)
  where
    nothing : (b : Bool) → false ≡ (b && false)
    nothing true = refl
    nothing false = refl
logged_from h strict low n (p ∷ places) =
    ap (λ b. b || is_logged h strict low places n) (among_from h low n (trace h strict p))
    ∙ ap (λ b. (nat_le low n && is_among n (listed h 0 (trace h strict p))) || b) (logged_from h strict low n places)
    ∙ both (nat_le low n) (is_among n (listed h 0 (trace h strict p))) (is_logged h strict 0 places n)
  where
    both : (a t x : Bool) → ((a && t) || (a && x)) ≡ (a && (t || x))
    both true t x = refl
    both false t x = refl
