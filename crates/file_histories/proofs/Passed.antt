-- Places at which no revision is listed are passed over.
use Rattle.std.proofs.Common.{◌≡◌, ◌≤◌, ℕ, zero, suc, Bool, true, false, List, [], ◌∷◌, Option, Some, arith, refl, sym, ap, ◌∙◌}
use Rattle.std.proofs.{lemmas.List.Elements.{All-weaker, All-contains_itself}, lemmas.List.Folds.list_any_none}
use Rattle.std.specs.{List.{All, Contains}, Prelude.{filter, if◌then◌else◌, ◌==◌, ◌&&◌, ◌||◌}}
use borrow.Author.Tests.{eqb-true, eqb-false, le-leb}
use Rattle.svnpath.specs.Paths.{Component, is_at_or_under, PathValue}
use Rattle.repo_api.specs.Histories.{Changed, History, IsQuiet, IsQuietSince}
use Rattle.traces.specs.{Traces.{is_from, trace, traced}, Touching.{is_touched, touches}, declared.place.Place.Place}
use Rattle.history.specs.Logs.{is_listed, place_at}
use Rattle.history.proofs.Passing.{never, trace_earlier}
use Rattle.file_histories.specs.FileRevisions.{listed_places}

-- a place and the rest
kept_by : (h : History) (p : Place) (rest : List Place) (b : Bool) → is_listed h 0 p ≡ b
    → filter (is_listed h 0) (p ∷ rest) ≡ (if b then p ∷ filter (is_listed h 0) rest else filter (is_listed h 0) rest)
kept_by h p rest true test = simp test
kept_by h p rest false test = simp test

as_touched : (h : History) (p : Place) (b : Bool) → is_touched (h p.revision) p.path ≡ b → is_listed h 0 p ≡ b
as_touched h p b is = ap (λ x. x && is_touched (h p.revision) p.path) (le-leb 0 p.revision (omega arith)) ∙ is

pub passed_on : (h : History) (p : Place) (next : Option Place) → trace h false p ≡ p ∷ traced h false next
    → is_touched (h p.revision) p.path ≡ false → listed_places h (Some p) ≡ listed_places h next
passed_on h p next is past =
    ap (filter (is_listed h 0)) is ∙ kept_by h p (traced h false next) false (as_touched h p false past)

pub found_at : (h : History) (p : Place) (next : Option Place) → trace h false p ≡ p ∷ traced h false next
    → is_touched (h p.revision) p.path ≡ true → listed_places h (Some p) ≡ p ∷ listed_places h next
found_at h p next is here =
    ap (filter (is_listed h 0)) is ∙ kept_by h p (traced h false next) true (as_touched h p true here)

untouched : (changes : List Changed) (c : Component) (p : PathValue) → IsQuiet changes (c ∷ p) → is_touched changes (c ∷ p) ≡ false
untouched changes c p quiet =
    list_any_none (touches (c ∷ p)) changes
    (All-weaker (Contains changes) (λ e. touches (c ∷ p) e ≡ false)
    (λ e there. neither (is_at_or_under e.0 (c ∷ p)) (is_from e.1.source) (is_at_or_under (c ∷ p) e.0) (never (is_at_or_under e.0 (c ∷ p)) (quiet.beneath e there))
    (never (is_at_or_under (c ∷ p) e.0) (quiet.above e there))) changes (All-contains_itself changes))
  where
    neither : (a b d : Bool) → a ≡ false → d ≡ false → (a || (b && d)) ≡ false
    neither true b d first second = first
    neither false true d first second = second
    neither false false d first second = refl

-- quiet revisions are passed over
since : (h : History) (c : Component) (p : PathValue) (k n : ℕ) → k ≤ n → IsQuietSince h (c ∷ p) k n
    → listed_places h (Some (place_at n (c ∷ p))) ≡ listed_places h (Some (place_at k (c ∷ p)))
since h c p k zero within quiet =
    let same : zero ≡ k = omega (arith, within) in
    ap (λ m. listed_places h (Some (place_at m (c ∷ p)))) same
since h c p k (suc n) within quiet = by (λ lower. since h c p k n lower (λ m after upto. quiet m after (omega (arith, upto)))) (k == suc n) refl
  where
    by : (k ≤ n → listed_places h (Some (place_at n (c ∷ p))) ≡ listed_places h (Some (place_at k (c ∷ p)))) → (b : Bool) → (k == suc n) ≡ b
        → listed_places h (Some (place_at (suc n) (c ∷ p))) ≡ listed_places h (Some (place_at k (c ∷ p)))
    by rest true same = ap (λ m. listed_places h (Some (place_at m (c ∷ p)))) (sym (eqb-true k (suc n) same))
    by rest false other =
        let past : k ≡ suc n → ⊥ = eqb-false k (suc n) other in
        let now : IsQuiet (h (suc n)) (c ∷ p) = quiet (suc n) (omega (arith, within, past)) (omega arith) in
        passed_on h (place_at (suc n) (c ∷ p)) (Some (place_at n (c ∷ p))) (trace_earlier h false (c ∷ p) n now) (untouched (h (suc n)) c p now)
        ∙ rest (omega (arith, within, past))

-- of a place that is settled
pub settled : (h : History) (at : Place) (k : ℕ) → (at.path ≡ [] → ⊥) → k ≤ at.revision → IsQuietSince h at.path k at.revision
    → listed_places h (Some at) ≡ listed_places h (Some (place_at k at.path))
settled h at k named within quiet = by at.path named quiet
  where
    by : (p : PathValue) → (p ≡ [] → ⊥) → IsQuietSince h p k at.revision → listed_places h (Some (place_at at.revision p)) ≡ listed_places h (Some (place_at k p))
    by [] named quiet = absurd (named refl)
    by (c ∷ p) named quiet = since h c p k at.revision within quiet
