-- The segments of a trace, step by step.
use Rattle.std.proofs.Common.{◌≡◌, ◌≤◌, ℕ, zero, suc, Bool, true, false, [], ◌∷◌, ◌++◌, Option, Some, None, arith, refl, sym, ap, ◌∙◌}
use Rattle.std.specs.Prelude.{◌==◌, if◌then◌else◌}
use borrow.Author.Tests.{eqb-true, eqb-false, le-ltb}
use Rattle.svnpath.specs.Paths.{PathValue}
use Rattle.repo_api.specs.Histories.{History, IsQuiet, IsQuietSince}
use Rattle.traces.specs.{Traces.{is_copied, is_copy_by, next_place, trace, traced, trace_below}, declared.place.Place.Place}
use Rattle.history.specs.Logs.{place_at}
use Rattle.history.proofs.{Passing.{none_decides, trace_earlier}, Steps.trace_is}
use Rattle.file_histories.specs.Segments.{gap, gap_before, gap_between, is_beginning, newest, segments_from, segments_of, stretch}

-- the places of a trace that goes on, its first one first
traced_is : (h : History) (q : Place) → traced h false (Some q) ≡ q ∷ trace_below h false q.revision (next_place false (h q.revision) q)
traced_is h q = trace_is h false q

-- what comes below a revision
from_traced : (h : History) (n : ℕ) (next : Option Place)
    → gap_before n (traced h false next) ++ segments_of h (newest (traced h false next)) (traced h false next) ≡ segments_from h n next
from_traced h n None = refl
from_traced h n (Some q) =
    ap (λ places. gap_before n places ++ segments_of h (newest places) (trace h false q)) (traced_is h q)

-- a stretch begins at a place
pub begins : (h : History) (last : ℕ) (p : Place) (next : Option Place) → trace h false p ≡ p ∷ traced h false next
    → is_beginning h p (traced h false next) ≡ true
    → segments_of h last (trace h false p) ≡ stretch p.revision last p.path ∷ segments_from h p.revision next
begins h last p next is here =
    ap (segments_of h last) is
    ∙ ap (λ b. if b
    then stretch p.revision last p.path ∷ (gap_before p.revision (traced h false next) ++ segments_of h (newest (traced h false next)) (traced h false next))
    else segments_of h last (traced h false next)) here
    ∙ ap (λ ss. stretch p.revision last p.path ∷ ss) (from_traced h p.revision next)

-- where a copy brought it
pub begins_copied : (h : History) (last : ℕ) (p q : Place) → trace h false p ≡ p ∷ traced h false (Some q) → is_copied (h p.revision) p.path ≡ true
    → segments_of h last (trace h false p) ≡ stretch p.revision last p.path ∷ segments_from h p.revision (Some q)
begins_copied h last p q is copied =
    begins h last p (Some q) is (ap (is_beginning h p) (traced_is h q) ∙ copied)

-- where there is none before
pub begins_made : (h : History) (last : ℕ) (p : Place) → trace h false p ≡ p ∷ traced h false None
    → segments_of h last (trace h false p) ≡ stretch p.revision last p.path ∷ segments_from h p.revision None
begins_made h last p is = begins h last p None is refl

-- a stretch goes on
pub goes_on : (h : History) (last : ℕ) (p q : Place) → trace h false p ≡ p ∷ traced h false (Some q) → is_copied (h p.revision) p.path ≡ false
    → segments_of h last (trace h false p) ≡ segments_of h last (trace h false q)
goes_on h last p q is uncopied =
    let places = trace_below h false q.revision (next_place false (h q.revision) q) in
    ap (segments_of h last) (is ∙ ap (λ ps. p ∷ ps) (traced_is h q))
    ∙ ap (λ b. if b
    then stretch p.revision last p.path ∷ (gap_before p.revision (q ∷ places) ++ segments_of h (newest (q ∷ places)) (q ∷ places))
    else segments_of h last (q ∷ places)) uncopied
    ∙ ap (segments_of h last) (sym (traced_is h q))

-- quiet revisions are passed over
since : (h : History) (last : ℕ) (p : PathValue) (k n : ℕ) → k ≤ n → IsQuietSince h p k n
    → segments_of h last (trace h false (place_at n p)) ≡ segments_of h last (trace h false (place_at k p))
since h last p k zero within quiet =
    let same : zero ≡ k = omega (arith, within) in
    ap (λ m. segments_of h last (trace h false (place_at m p))) same
since h last p k (suc n) within quiet = by (λ lower. since h last p k n lower (λ m after upto. quiet m after (omega (arith, upto)))) (k == suc n) refl
  where
    by : (k ≤ n → segments_of h last (trace h false (place_at n p)) ≡ segments_of h last (trace h false (place_at k p))) → (b : Bool) → (k == suc n) ≡ b
        → segments_of h last (trace h false (place_at (suc n) p)) ≡ segments_of h last (trace h false (place_at k p))
    by rest true same = ap (λ m. segments_of h last (trace h false (place_at m p))) (sym (eqb-true k (suc n) same))
    by rest false other =
        let past : k ≡ suc n → ⊥ = eqb-false k (suc n) other in
        let now : IsQuiet (h (suc n)) p = quiet (suc n) (omega (arith, within, past)) (omega arith) in
        goes_on h last (place_at (suc n) p) (place_at n p) (trace_earlier h false p n now) (ap is_copy_by (none_decides (h (suc n)) p now))
        ∙ rest (omega (arith, within, past))

-- of a place that is settled
pub settled : (h : History) (last : ℕ) (at : Place) (k : ℕ) → k ≤ at.revision → IsQuietSince h at.path k at.revision
    → segments_of h last (trace h false at) ≡ segments_of h last (trace h false (place_at k at.path))
settled h last at k within quiet = since h last at.path k at.revision within quiet

-- no gap is at its own revision, or at the one before
pub no_gap : (copy source : ℕ) → copy ≤ suc source → gap_between copy source ≡ []
no_gap copy source near =
    ap (λ b. if b then gap copy source ∷ [] else []) (le-ltb (suc source) copy near)
