-- The steps of a trace.
use Rattle.std.proofs.Common.{◌≡◌, ◌<◌, ◌≤◌, ℕ, zero, suc, Bool, true, false, List, [], ◌∷◌, ◌++◌, Option, Some, None, arith, refl, sym, ap, ◌∙◌, eq-eqb}
use Rattle.std.specs.Prelude.{◌==◌, ◌&&◌, if◌then◌else◌}
use borrow.Author.Tests.{eqb-true, eqb-false, le-leb, lt-leb}
use Rattle.repo_api.specs.Histories.{History}
use Rattle.traces.specs.{Traces.{trace_below, trace, traced, next_place}, Touching.is_touched, declared.place.Place.Place}
use Rattle.history.specs.{Logs.{listed, is_listed}, Locations.{path_in, location_back}}

-- one revision of a trace
pub at_one : (h : History) (strict : Bool) (n : ℕ) (p : Place) (b : Bool) → (p.revision == n) ≡ b
    → trace_below h strict (suc n) (Some p) ≡ (if b then p ∷ [] else []) ++ trace_below h strict n (if b then next_place strict (h n) p else Some p)
at_one h strict n p b test = ap (λ x. (if x then p ∷ [] else []) ++ trace_below h strict n (if x then next_place strict (h n) p else Some p)) test

-- a trace is its place and what comes of the place before
pub trace_is : (h : History) (strict : Bool) (p : Place) → trace h strict p ≡ p ∷ trace_below h strict p.revision (next_place strict (h p.revision) p)
trace_is h strict p = at_one h strict p.revision p true (eq-eqb p.revision p.revision refl)

pub not_equal : (m n : ℕ) → (m ≡ n → ⊥) → (m == n) ≡ false
not_equal m n other = by (m == n) refl
  where
    by : (b : Bool) → (m == n) ≡ b → b ≡ false
    by true same = absurd (other (eqb-true m n same))
    by false past = refl

strictly_below : (m n : ℕ) → m < suc n → (m ≡ n → ⊥) → m < n
strictly_below m n lower other = omega (arith, lower, other)

-- revisions above the place are passed over
pub trace_passes : (h : History) (strict : Bool) (n : ℕ) (p : Place) → p.revision < n → trace_below h strict n (Some p) ≡ trace h strict p
trace_passes h strict zero p lower = absurd (omega (arith, lower))
trace_passes h strict (suc n) p lower = by (trace_passes h strict n p) (p.revision == n) refl
  where
    by : (p.revision < n → trace_below h strict n (Some p) ≡ trace h strict p) → (b : Bool) → (p.revision == n) ≡ b
        → trace_below h strict (suc n) (Some p) ≡ trace h strict p
    by rest true same = ap (λ k. trace_below h strict (suc k) (Some p)) (sym (eqb-true p.revision n same))
    by rest false past =
        let other : p.revision ≡ n → ⊥ = eqb-false p.revision n past in
        at_one h strict n p false past ∙ rest (strictly_below p.revision n lower other)

-- a place that is not below yields nothing
pub trace_above : (h : History) (strict : Bool) (n : ℕ) (p : Place) → n ≤ p.revision → trace_below h strict n (Some p) ≡ []
trace_above h strict zero p higher = refl
trace_above h strict (suc n) p higher =
    let past : (p.revision == n) ≡ false = not_equal p.revision n (λ same. omega (arith, higher, same)) in
    at_one h strict n p false past ∙ trace_above h strict n p (omega (arith, higher))

-- the places below a revision have no path in it
pub no_path : (h : History) (strict : Bool) (n k : ℕ) (o : Option Place) → k ≤ n → path_in n (trace_below h strict k o) ≡ None
no_path h strict n zero o low = refl
no_path h strict n (suc k) None low = refl
no_path h strict n (suc k) (Some p) low = by (λ o. no_path h strict n k o (omega (arith, low))) (p.revision == k) refl
  where
    by : ((o : Option Place) → path_in n (trace_below h strict k o) ≡ None) → (b : Bool) → (p.revision == k) ≡ b
        → path_in n (trace_below h strict (suc k) (Some p)) ≡ None
    by rest true same =
        let is : p.revision ≡ k = eqb-true p.revision k same in
        let other : (p.revision == n) ≡ false = not_equal p.revision n (λ e. omega (arith, low, is, e)) in
        ap (path_in n) (at_one h strict k p true same)
        ∙ ap (λ b. if b then Some p.path else path_in n (trace_below h strict k (next_place strict (h k) p))) other
        ∙ rest (next_place strict (h k) p)
    by rest false past = ap (path_in n) (at_one h strict k p false past) ∙ rest (Some p)

-- and so none of a trace that goes on below it
no_path_below : (h : History) (strict : Bool) (n : ℕ) (p : Place) → p.revision < n → path_in n (trace h strict p) ≡ None
no_path_below h strict n p lower = no_path h strict n (suc p.revision) (Some p) (omega (arith, lower))

-- the path of a trace at its own place
pub path_here : (h : History) (strict : Bool) (n : ℕ) (p : Place) (rest : List Place) → trace h strict p ≡ p ∷ rest → p.revision ≡ n → path_in n (trace h strict p) ≡ Some p.path
path_here h strict n p rest is same =
    ap (path_in n) is ∙ ap (λ b. if b then Some p.path else path_in n rest) (eq-eqb p.revision n same)

-- and past it
pub path_past : (h : History) (strict : Bool) (n : ℕ) (p : Place) (rest : List Place) → trace h strict p ≡ p ∷ rest → n < p.revision → path_in n (trace h strict p) ≡ path_in n rest
path_past h strict n p rest is lower =
    ap (path_in n) is
    ∙ ap (λ b. if b then Some p.path else path_in n rest) (not_equal p.revision n (λ same. omega (arith, lower, same)))

-- what a log lists of a place and of the rest
pub listed_by : (h : History) (low : ℕ) (p : Place) (rest : List Place) (b : Bool) → is_listed h low p ≡ b
    → listed h low (p ∷ rest) ≡ (if b then p.revision ∷ listed h low rest else listed h low rest)
listed_by h low p rest true test = simp test
listed_by h low p rest false test = simp test

too_low : (h : History) (low : ℕ) (p : Place) → p.revision < low → is_listed h low p ≡ false
too_low h low p lower = ap (λ b. b && is_touched (h p.revision) p.path) (lt-leb low p.revision lower)

-- nothing is listed below the lowest revision
nothing_listed : (h : History) (strict : Bool) (low k : ℕ) (o : Option Place) → k ≤ low → listed h low (trace_below h strict k o) ≡ []
nothing_listed h strict low zero o under = refl
nothing_listed h strict low (suc k) None under = refl
nothing_listed h strict low (suc k) (Some p) under = by (λ o. nothing_listed h strict low k o (omega (arith, under))) (p.revision == k) refl
  where
    by : ((o : Option Place) → listed h low (trace_below h strict k o) ≡ []) → (b : Bool) → (p.revision == k) ≡ b
        → listed h low (trace_below h strict (suc k) (Some p)) ≡ []
    by rest true same =
        let is : p.revision ≡ k = eqb-true p.revision k same in
        ap (listed h low) (at_one h strict k p true same)
        ∙ listed_by h low p (trace_below h strict k (next_place strict (h k) p)) false (too_low h low p (omega (arith, is, under)))
        ∙ rest (next_place strict (h k) p)
    by rest false past = ap (listed h low) (at_one h strict k p false past) ∙ rest (Some p)

pub nothing_listed_below : (h : History) (strict : Bool) (low : ℕ) (p : Place) → p.revision < low → listed h low (trace h strict p) ≡ []
nothing_listed_below h strict low p lower = nothing_listed h strict low (suc p.revision) (Some p) (omega (arith, lower))

-- what a walk keeps, place by place
pub walked_on : (h : History) (strict : Bool) (low : ℕ) (p : Place) (next : Option Place) → trace h strict p ≡ p ∷ traced h strict next → low ≤ p.revision
    → is_touched (h p.revision) p.path ≡ false → listed h low (trace h strict p) ≡ listed h low (traced h strict next)
walked_on h strict low p next is high past =
    let test : is_listed h low p ≡ false = ap (λ b. b && is_touched (h p.revision) p.path) (le-leb low p.revision high) ∙ past in
    ap (listed h low) is ∙ listed_by h low p (traced h strict next) false test

pub walked_to : (h : History) (strict : Bool) (low : ℕ) (p : Place) (next : Option Place) → trace h strict p ≡ p ∷ traced h strict next → low ≤ p.revision
    → is_touched (h p.revision) p.path ≡ true → listed h low (trace h strict p) ≡ p.revision ∷ listed h low (traced h strict next)
walked_to h strict low p next is high here =
    let test : is_listed h low p ≡ true = ap (λ b. b && is_touched (h p.revision) p.path) (le-leb low p.revision high) ∙ here in
    ap (listed h low) is ∙ listed_by h low p (traced h strict next) true test

-- where a location is found, step by step
pub goes_on_to : (h : History) (n : ℕ) (p next : Place) → trace h false p ≡ p ∷ traced h false (Some next) → n < p.revision → location_back h next n ≡ location_back h p n
goes_on_to h n p next is lower = sym (path_past h false n p (trace h false next) is lower)

pub ends_at : (h : History) (n : ℕ) (p : Place) → trace h false p ≡ p ∷ traced h false None → n < p.revision → location_back h p n ≡ None
ends_at h n p is lower = path_past h false n p [] is lower

pub is_at : (h : History) (n : ℕ) (p : Place) → p.revision ≡ n → location_back h p n ≡ Some p.path
is_at h n p same = path_here h false n p (trace_below h false p.revision (next_place false (h p.revision) p)) (trace_is h false p) same

pub is_past : (h : History) (n : ℕ) (p : Place) → p.revision < n → location_back h p n ≡ None
is_past h n p lower = no_path_below h false n p lower
