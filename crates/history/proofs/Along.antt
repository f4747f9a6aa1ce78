-- Traces that are gone along once, and what is known by that.
use Rattle.std.proofs.Common.{◌≡◌, ◌<◌, ◌≤◌, ℕ, Bool, true, false, cond, List, [], ◌∷◌, Option, Some, None, arith, refl, sym, ap, ◌∙◌, subst}
use Rattle.std.proofs.{lemmas.Bool.false≢true, lemmas.Option.same_Some}
use Rattle.std.specs.{BTreeMap.is_at, Cmp.unsigned_tied, Ordering.nat_cmp, Prelude.{◌==◌, is_some, if◌then◌else◌}}
use borrow.Author.Tests.{eqb-true}
use Rattle.svnpath.specs.Paths.{PathValue}
use Rattle.repo_api.specs.Histories.{History}
use Rattle.history.proofs.Steps.{ends_at, goes_on_to}
use Rattle.history.specs.Gathered.{GoesOn, IsNoted, path_known}
use Rattle.traces.specs.{Traces.{trace, traced}, declared.place.Place.Place}

pub goes_through : (h : History) (r : ℕ) (a b c : Option Place) → GoesOn h a r b → GoesOn h b r c → GoesOn h a r c
goes_through h r a b c first second n upto = second n upto ∙ first n upto

pub goes_less : (h : History) (r s : ℕ) (a b : Option Place) → s ≤ r → GoesOn h a r b → GoesOn h a s b
goes_less h r s a b less goes n upto = goes n (omega (arith, less, upto))

-- a step back, above the revision
pub goes_step : (h : History) (r : ℕ) (p next : Place) → trace h false p ≡ p ∷ traced h false (Some next) → r < p.revision → GoesOn h (Some p) r (Some next)
goes_step h r p next is higher n upto = goes_on_to h n p next is (omega (arith, higher, upto))

pub goes_end : (h : History) (r : ℕ) (p : Place) → trace h false p ≡ p ∷ traced h false None → r < p.revision → GoesOn h (Some p) r None
goes_end h r p is higher n upto = sym (ends_at h n p is (omega (arith, higher, upto)))

-- what a map has, with one revision more
pub tied_noted : (r n : ℕ) (path : Option PathValue) (old new : Option (Option PathValue)) → new ≡ cond (is_at (nat_cmp r) n) (Some path) old → new ≡ (if r == n then Some path else old)
tied_noted r n path old new is = is ∙ ap (λ b. cond b (Some path) old) (unsigned_tied r n)

-- what is known, with one revision more
pub known_more : (P : ℕ → Option PathValue → Type 0) (old new : List (ℕ × Option PathValue)) (r : ℕ) (v : Option PathValue) → IsNoted r v old new → P r v
    → ((n : ℕ) (o : Option PathValue) → path_known old n ≡ Some o → P n o) → (n : ℕ) (o : Option PathValue) → path_known new n ≡ Some o → P n o
known_more P old new r v noted now before n o is = by (r == n) refl (sym (noted n) ∙ is)
  where
    by : (b : Bool) → (r == n) ≡ b → (if r == n then Some v else path_known old n) ≡ Some o → P n o
    by true same e = subst (λ k. P k o) (eqb-true r n same) (subst (P r) (same_Some v o (sym (ap (λ b. if b then Some v else path_known old n) same) ∙ e)) now)
    by false other e = before n o (sym (ap (λ b. if b then Some v else path_known old n) other) ∙ e)

-- of no revision a path is known
pub none_known : (entries : List (ℕ × Option PathValue)) (n : ℕ) (o : Option PathValue) → entries ≡ [] → path_known entries n ≡ Some o → ⊥
none_known entries n o none is = false≢true (ap is_some (sym (ap (λ es. path_known es n) none) ∙ is))
