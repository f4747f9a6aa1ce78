-- What holds where no lock refuses.
use Rattle.std.proofs.{Common.{◌≡◌, Bool, true, false, cond, not, ◌||◌, List, [], ◌∷◌, ℕ, Option, Some, None, refl, sym, ap, ◌∙◌}, lemmas.Bool.false≢true}
use Rattle.std.specs.{BTreeMap.is_at, List.{list_any, filter}, Map.lookup, Option.{is_none, option_or, unwrap_or}, Prelude.{is_some, if◌then◌else◌}}
use Rattle.svnpath.specs.{PathLaws.{at_is, same_component_is}, Paths.{path_cmp, PathValue, same_component}}
use Rattle.refusals.specs.declared.Refusal.{Refusal}
use Rattle.refusals.specs.declared.Refusal.TheVariants as refusals
use Rattle.repo_api.specs.{declared.lock.Lock.Lock, Locking.{first_refusal, holder_refusal, LockList, way_refusal}}

some_none : (r : Refusal) → ◌≡◌ {A = Option Refusal} (Some r) None → ⊥
some_none r h = false≢true (ap is_some (sym h))

held_step : (user : List ℕ) (is_right : Bool) (l : Lock) (owns : Bool) → same_component user l.owner ≡ owns
    → (if owns then (if is_right then None else Some refusals.BadLockToken) else Some refusals.NotTheLockOwner) ≡ None → (◌≡◌ {A = Option (List ℕ)} (Some user) (Some l.owner)) × (is_right ≡ true)
held_step user true l true same h = (ap (λ u. Some u) (same_component_is user l.owner same), refl)
held_step user false l true same h = absurd (some_none refusals.BadLockToken h)
held_step user is_right l false same h = absurd (some_none refusals.NotTheLockOwner h)

-- whom a lock does not refuse holds it
pub held : (user : Option (List ℕ)) (is_right : Bool) (l : Lock) → holder_refusal user is_right l ≡ None → (user ≡ Some l.owner) × (is_right ≡ true)
held None is_right l h = absurd (some_none refusals.NoUser h)
held (Some user) is_right l h = held_step user is_right l (same_component user l.owner) refl h

none_so : (o : Option Refusal) → is_some o ≡ false → o ≡ None
none_so None h = refl
none_so (Some r) h = absurd (false≢true (sym h))

-- where the first refusal is none, none refuses
pub none_refuses : (user : Option (List ℕ)) (tokens : List ℕ → Bool) (es : LockList) → first_refusal user tokens es ≡ None
    → list_any (λ e. is_some (way_refusal user tokens e.1)) es ≡ false
none_refuses user tokens [] h = refl
none_refuses user tokens (e ∷ es) h = by (way_refusal user tokens e.1) h (none_refuses user tokens es)
  where
    by : (o : Option Refusal) → option_or o (first_refusal user tokens es) ≡ None → (first_refusal user tokens es ≡ None → list_any (λ e. is_some (way_refusal user tokens e.1)) es ≡ false)
        → (is_some o || list_any (λ e. is_some (way_refusal user tokens e.1)) es) ≡ false
    by None none rest = rest none
    by (Some r) none rest = absurd (some_none r none)

-- what stands at a path is among the entries that pass
not_among : (f g : PathValue × Lock → Bool) (es : LockList) (p : PathValue) (l : Lock) → lookup (is_at (path_cmp p)) es ≡ Some l → g (p, l) ≡ true
    → list_any f (filter g es) ≡ false → f (p, l) ≡ false
not_among f g [] p l at passes none = absurd (false≢true (ap is_some at))
not_among f g (e ∷ es) p l at passes none = by (is_at (path_cmp p) e.0) refl at (not_among f g es p l)
  where
    left_false : (a b : Bool) → (a || b) ≡ false → a ≡ false
    left_false true b h = h
    left_false false b h = refl

    right_false : (a b : Bool) → (a || b) ≡ false → b ≡ false
    right_false true b h = absurd (false≢true (sym h))
    right_false false b h = h

    dropped : (b : Bool) → list_any f (cond b (e ∷ filter g es) (filter g es)) ≡ false → list_any f (filter g es) ≡ false
    dropped true h = right_false (f e) (list_any f (filter g es)) h
    dropped false h = h

    by : (b : Bool) → is_at (path_cmp p) e.0 ≡ b → cond b (Some e.1) (lookup (is_at (path_cmp p)) es) ≡ Some l
        → (lookup (is_at (path_cmp p)) es ≡ Some l → g (p, l) ≡ true → list_any f (filter g es) ≡ false → f (p, l) ≡ false) → f (p, l) ≡ false
    by true same found rest =
        let is : e ≡ (p, l) = λ i. (sym (at_is p e.0 same) i, ap (λ o. unwrap_or o l) found i) in
        ap f (sym is)
        ∙ left_false (f e) (list_any f (filter g es)) (ap (λ b. list_any f (cond b (e ∷ filter g es) (filter g es))) (sym (ap g is ∙ passes)) ∙ none)
    by false other found rest = rest found passes (dropped (g e) none)

pub not_refused : (user : Option (List ℕ)) (tokens : List ℕ → Bool) (g : PathValue × Lock → Bool) (es : LockList) (p : PathValue) (l : Lock) → lookup (is_at (path_cmp p)) es ≡ Some l → g (p, l) ≡ true
    → list_any (λ e. is_some (way_refusal user tokens e.1)) (filter g es) ≡ false → way_refusal user tokens l ≡ None
not_refused user tokens g es p l at passes none =
    none_so (way_refusal user tokens l) (not_among (λ e. is_some (way_refusal user tokens e.1)) g es p l at passes none)

pub not_some : (b : Bool) (o : Option Refusal) → is_some o ≡ not b → b ≡ is_none o
not_some true None h = refl
not_some true (Some r) h = absurd (false≢true (sym h))
not_some false None h = absurd (false≢true h)
not_some false (Some r) h = refl
