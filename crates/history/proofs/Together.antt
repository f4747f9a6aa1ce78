-- Traces that are gone along together, and meet.
use Rattle.std.proofs.Common.{Result, Ok, Err, ◌≡◌, ◌<◌, ℕ, Bool, true, false, cond, List, [], ◌∷◌, ◌++◌, Option, Some, None, arith, refl, sym, ap, ◌∙◌, subst}
use Rattle.std.proofs.{lemmas.Bool.{false≢true, and_parts}, lemmas.List.Elements.{All-nil, All-cons, All-head, All-tail}, lemmas.Option.same_Some}
use Rattle.std.specs.{BTreeMap.is_at, Cmp.unsigned_tied, List.All, Ordering.{nat_cmp, is_eq, ordering_then}, Prelude.{◌==◌, ◌&&◌, OnOk, is_some}}
use Rattle.std.specs.{declared.cmp.Ordering.Ordering, declared.cmp.Ordering.TheVariants.{Less, Equal, Greater}}
use borrow.Author.Tests.{eqb-true}
use Rattle.svnpath.specs.{PathLaws.{at_is_same, same_path_is}, Paths.{PathValue, path_cmp, same_path}}
use Rattle.repo_api.specs.Histories.{History}
use Rattle.history.specs.{Gathered.{GoesOn, path_from}, Locations.{location_on, only_same}, Meeting.{IsTraceOf, noted_at, place_cmp}}
use Rattle.history.proofs.Steps.{path_past}
use Rattle.traces.specs.{Traces.{trace, traced}, declared.place.Place.Place}

tied_both : (x y : Ordering) → is_eq (ordering_then x y) ≡ (is_eq x && is_eq y)
tied_both Less y = refl
tied_both Equal y = refl
tied_both Greater y = refl

-- a query finds its own place alone
at_place : (a b : ℕ × PathValue) → is_at (place_cmp a) b ≡ true → a ≡ b
at_place a b is =
    let both = and_parts (a.0 == b.0) (same_path a.1 b.1)
    (sym (tied_both (nat_cmp a.0 b.0) (path_cmp a.1 b.1)
    ∙ ap (λ x. x && is_eq (path_cmp a.1 b.1)) (unsigned_tied a.0 b.0)
    ∙ ap (λ x. (a.0 == b.0) && x) (at_is_same a.1 b.1)) ∙ is) in
    let revision : a.0 ≡ b.0 = eqb-true a.0 b.0 both.0 in
    let path : a.1 ≡ b.1 = same_path_is a.1 b.1 both.1 in
    λ i. (revision i, path i)

-- one place more
pub placed : (P : ℕ × PathValue → ℕ → Type 0) (key : ℕ × PathValue) (value : ℕ) (old new : List ((ℕ × PathValue) × ℕ))
    → ((q : ℕ × PathValue) → noted_at new q ≡ cond (is_at (place_cmp key) q) (Some value) (noted_at old q)) → P key value
    → ((q : ℕ × PathValue) (n : ℕ) → noted_at old q ≡ Some n → P q n) → (q : ℕ × PathValue) (n : ℕ) → noted_at new q ≡ Some n → P q n
placed P key value old new updates now before q n is = by (is_at (place_cmp key) q) refl (sym (updates q) ∙ is)
  where
    by : (b : Bool) → is_at (place_cmp key) q ≡ b → cond (is_at (place_cmp key) q) (Some value) (noted_at old q) ≡ Some n → P q n
    by true same e = subst (λ k. P k n) (at_place key q same) (subst (P key) (same_Some value n (sym (ap (λ b. cond b (Some value) (noted_at old q)) same) ∙ e)) now)
    by false other e = before q n (sym (ap (λ b. cond b (Some value) (noted_at old q)) other) ∙ e)

-- and one less
pub taken : (P : ℕ × PathValue → ℕ → Type 0) (key : ℕ × PathValue) (old new : List ((ℕ × PathValue) × ℕ))
    → ((q : ℕ × PathValue) → noted_at new q ≡ cond (is_at (place_cmp key) q) None (noted_at old q))
    → ((q : ℕ × PathValue) (n : ℕ) → noted_at old q ≡ Some n → P q n) → (q : ℕ × PathValue) (n : ℕ) → noted_at new q ≡ Some n → P q n
taken P key old new updates before q n is = by (is_at (place_cmp key) q) refl (sym (updates q) ∙ is)
  where
    nothing : (o : Option ℕ) → o ≡ None → o ≡ Some n → ⊥
    nothing o none some = false≢true (ap is_some (sym none ∙ some))

    by : (b : Bool) → is_at (place_cmp key) q ≡ b → cond (is_at (place_cmp key) q) None (noted_at old q) ≡ Some n → P q n
    by true same e = absurd (nothing (cond (is_at (place_cmp key) q) None (noted_at old q)) (ap (λ b. cond b None (noted_at old q)) same) e)
    by false other e = before q n (sym (ap (λ b. cond b None (noted_at old q)) other) ∙ e)

-- nothing is noted where nothing is
pub none_noted : (entries : List ((ℕ × PathValue) × ℕ)) (q : ℕ × PathValue) (n : ℕ) → entries ≡ [] → noted_at entries q ≡ Some n → ⊥
none_noted entries q n none is = false≢true (ap is_some (sym (ap (λ es. noted_at es q) none) ∙ is))

-- traces that have met lead to one path
pub same_where_met : (h : History) (place : Place) (one other : ℕ) (at : Option Place) → IsTraceOf h place one at → IsTraceOf h place other at
    → location_on h place one ≡ location_on h place other
same_where_met h place one other at first second = ap (only_same place.path) (sym first ∙ second)

-- a trace that goes on
pub trace_goes_on : (h : History) (place : Place) (n : ℕ) (at next : Option Place) → GoesOn h at place.revision next → IsTraceOf h place n at → IsTraceOf h place n next
trace_goes_on h place n at next goes is = goes place.revision (omega arith) ∙ is

pub trace_steps : (h : History) (place : Place) (n : ℕ) (at : Place) (next : Option Place) → trace h false at ≡ at ∷ traced h false next → place.revision < at.revision
    → IsTraceOf h place n (Some at) → IsTraceOf h place n next
trace_steps h place n at next steps higher is = sym (path_past h false place.revision at (traced h false next) steps higher) ∙ is

-- the path that it has at its end
pub path_at_end : (h : History) (place : Place) (n : ℕ) (at settled : Option Place) (path back : Option PathValue) → path ≡ only_same place.path back
    → back ≡ path_from h settled place.revision → GoesOn h at place.revision settled → IsTraceOf h place n at → path ≡ location_on h place n
path_at_end h place n at settled path back is of goes trace =
    is ∙ ap (only_same place.path) (of ∙ goes place.revision (omega arith) ∙ trace)

-- all of a list but the last, and the last
pub all_parts : {X : Type 0} (P : X → Type 0) (xs : List X) (x : X) → All P (xs ++ x ∷ []) → All P xs × P x
all_parts P [] x all = (All-nil P, All-head P x [] all)
all_parts P (y ∷ ys) x all =
    let rest = all_parts P ys x (All-tail P y (ys ++ x ∷ []) all) in
    (All-cons P y ys (All-head P y (ys ++ x ∷ []) all) rest.0, rest.1)

pub on_ok : {A E : Type 0} (r : Result A E) (P Q : Type 0) → (P → Q) → OnOk r P → OnOk r Q
on_ok (Ok x) P Q then holds = then holds
on_ok (Err e) P Q then holds = holds
