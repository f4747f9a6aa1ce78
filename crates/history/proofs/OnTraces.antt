-- Locations are on traces, and the dated revision is the greatest.
use Rattle.std.proofs.Common.{◌≡◌, ◌<◌, ◌≤◌, ◌⊎◌, inl, inr, ℕ, zero, suc, Bool, true, false, List, [], ◌∷◌, Option, Some, None, arith, refl, sym, ap, ◌∙◌}
use Rattle.std.proofs.Common.{subst}
use Rattle.std.specs.Prelude.{if◌then◌else◌, ◌==◌, Contains}
use borrow.Author.Tests.{eqb-true, le-leb, lt-leb}
use Rattle.svnpath.specs.{PathLaws.same_path_is, Paths.{PathValue, same_path}}
use Rattle.repo_api.specs.{Dates.is_dated, Histories.history_of, Kinds.kind_at, States.{RepoState, youngest}, declared.entry.NodeKind.NodeKind}
use Rattle.repo_api.specs.declared.entry.NodeKind.TheVariants as kinds
use Rattle.traces.specs.{Traces.trace, declared.place.Place.Place}
use Rattle.history.specs.{Logs.place_at, Locations.{path_in, location, location_back, location_on, only_same, if_present}, Dates.{greatest, dated_rev}}
use Rattle.history.specs.Laws.{AreOnTraces, IsGreatestDated}

-- the place at a path that a list of places has in a revision
path_is_there : (n : ℕ) (p : PathValue) (places : List Place) → path_in n places ≡ Some p → Contains places (place_at n p)
path_is_there n p [] is = cc
path_is_there n p (at ∷ places) is = by (path_is_there n p places) (at.revision == n) refl
  where
    by : (path_in n places ≡ Some p → Contains places (place_at n p)) → (b : Bool) → (at.revision == n) ≡ b → Contains (at ∷ places) (place_at n p)
    by rest true same =
        let found : ◌≡◌ {A = Option PathValue} (Some at.path) (Some p) = sym (ap (λ b. if b then Some at.path else path_in n places) same) ∙ is in
        let path_is : at.path ≡ p = cc in
        let revision_is : at.revision ≡ n = eqb-true at.revision n same in
        (0, omega arith, λ i. record { path = path_is i; revision = revision_is i })
    by rest false other =
        let found = rest (sym (ap (λ b. if b then Some at.path else path_in n places) other) ∙ is) in
        (suc found.0, omega (arith, found.1), found.2)

back_on_trace : (c : RepoState) (at : Place) (n : ℕ) (p : PathValue) → n ≤ at.revision → location c at n ≡ Some p → Contains (trace (history_of c) false at) (place_at n p)
back_on_trace c at n p within is =
    path_is_there n p (trace (history_of c) false at)
    (sym (ap (λ b. if b then location_back (history_of c) at n else if_present (kind_at c n at.path) (location_on (history_of c) at n)) (le-leb n at.revision within)) ∙ is)

present_is : (kind : NodeKind) (o : Option PathValue) (p : PathValue) → if_present kind o ≡ Some p → o ≡ Some p
present_is kinds.Absent o p is = cc
present_is kinds.File o p is = is
present_is kinds.Directory o p is = is

same_is : (q p : PathValue) (o : Option PathValue) → only_same q o ≡ Some p → (p ≡ q) × (o ≡ Some q)
same_is q p None is = cc
same_is q p (Some r) is = by (same_path q r) refl
  where
    by : (b : Bool) → same_path q r ≡ b → (p ≡ q) × (◌≡◌ {A = Option PathValue} (Some r) (Some q))
    by true same =
        let found : ◌≡◌ {A = Option PathValue} (Some q) (Some p) = sym (ap (λ b. if b then Some q else None) same) ∙ is in
        let first : q ≡ p = cc in
        (sym first, ap (λ x. Some x) (sym (same_path_is q r same)))
    by false other =
        let found : ◌≡◌ {A = Option PathValue} None (Some p) = sym (ap (λ b. if b then Some q else None) other) ∙ is in
        cc

on_trace : (c : RepoState) (at : Place) (n : ℕ) (p : PathValue) → at.revision < n → location c at n ≡ Some p
    → (p ≡ at.path) × Contains (trace (history_of c) false (place_at n p)) at
on_trace c at n p later is =
    let here : if_present (kind_at c n at.path) (location_on (history_of c) at n) ≡ Some p =
    sym (ap (λ b. if b then location_back (history_of c) at n else if_present (kind_at c n at.path) (location_on (history_of c) at n)) (lt-leb n at.revision later)) ∙ is in
    let both = same_is at.path p (location_back (history_of c) (place_at n at.path) at.revision) (present_is (kind_at c n at.path) (location_on (history_of c) at n) p here) in
    let P : PathValue → Type 0 = λ q. Contains (trace (history_of c) false (place_at n q)) at in
    (both.0, subst P (sym both.0) (path_is_there at.revision at.path (trace (history_of c) false (place_at n at.path)) both.1))

pub on_traces : (c : RepoState) → AreOnTraces c
on_traces c = record { back = back_on_trace c; on = on_trace c }

greatest_passes : (test : ℕ → Bool) (n : ℕ) → (greatest test n ≡ 0) ⊎ (test (greatest test n) ≡ true)
greatest_passes test zero = inl refl
greatest_passes test (suc n) = by (greatest_passes test n) (test (suc n)) refl
  where
    by : (greatest test n ≡ 0) ⊎ (test (greatest test n) ≡ true) → (b : Bool) → test (suc n) ≡ b
        → ((if b then suc n else greatest test n) ≡ 0) ⊎ (test (if b then suc n else greatest test n) ≡ true)
    by rest true passes = inr passes
    by rest false fails = rest

none_greater : (test : ℕ → Bool) (k n : ℕ) → n ≤ k → test n ≡ true → n ≤ greatest test k
none_greater test zero n within passes = within
none_greater test (suc k) n within passes = by (none_greater test k n) (test (suc k)) refl
  where
    by : (n ≤ k → test n ≡ true → n ≤ greatest test k) → (b : Bool) → test (suc k) ≡ b → n ≤ (if b then suc k else greatest test k)
    by rest true is = within
    by rest false is =
        let other : n ≡ suc k → ⊥ = λ same. cc (sym passes ∙ ap test same ∙ is) in
        rest (omega (arith, within, other)) passes

pub dated_is_greatest : (c : RepoState) (date : List ℕ) → IsGreatestDated c date (dated_rev c date)
dated_is_greatest c date = record {
  dated = greatest_passes (is_dated c date) (youngest c);
  greatest = none_greater (is_dated c date) (youngest c);
}
