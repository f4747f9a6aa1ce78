-- Where dates rise, after a change and in a search.
use Rattle.std.proofs.Common.{◌≡◌, ◌≤◌, ◌-◌, ◌+◌, ℕ, zero, suc, Bool, true, false, ◌&&◌, List, [], ◌∷◌, ◌++◌, length, max, Option, Some, None, arith, refl, sym}
use Rattle.std.proofs.{Common.{ap, subst, ◌∙◌}, lemmas.Bool.false≢true, lemmas.Cmp.nat_list_cmp_total, lemmas.Option.slice_get_past}
use Rattle.std.proofs.Math.Nat.{le-max_left, le-max_right}
use borrow.Author.Tests.{eqb-true, eqb-false}
use Rattle.std.specs.{BTreeMap.Comparable.le_lt_trans, Cmp.Lexicographic.slice_cmp, Ordering.{is_le, nat_cmp, ordering_reverse}}
use Rattle.std.specs.{Prelude.{◌==◌, slice_get, slice_set}, declared.cmp.Ordering.Ordering, declared.cmp.Ordering.TheVariants.{Less, Equal, Greater}}
use Rattle.repo_api.specs.{Dates.{date_of, is_date_text, is_dated, is_up_to, IsUndatedSince}, Kinds.or_empty, Properties.PropertyList, States.RepoState}
use Rattle.noderevs.proofs.Pushing.{other_place}
use Rattle.shared_revisions.specs.Rising.{IsNoLater, list_at, RisesButAt, RisesFrom, RisesTo}

-- ---- two dates

both_of : (b c : Bool) → (b && c) ≡ true → (b ≡ true) × (c ≡ true)
both_of true c is = (refl, is)
both_of false c is = absurd (false≢true is)

abbrev up_to : List ℕ → List ℕ → Bool
up_to one other = is_le (slice_cmp nat_cmp one other)

up_to_on : (x y z : List ℕ) → up_to x y ≡ true → up_to y z ≡ true → up_to x z ≡ true
up_to_on x y z low high = by (slice_cmp nat_cmp y z) refl
  where
    by : (r : Ordering) → slice_cmp nat_cmp y z ≡ r → up_to x z ≡ true
    by Less is = ap is_le (le_lt_trans nat_list_cmp_total x y z low is)
    by Equal is =
        ap is_le (nat_list_cmp_total.antisymm x z
        ∙ ap ordering_reverse (sym (nat_list_cmp_total.congr y z x is))
        ∙ sym (nat_list_cmp_total.antisymm x y))
        ∙ low
    by Greater is = absurd (false≢true (sym (ap is_le is) ∙ high))

-- what is dated up to the date of the other is no later than it
pub no_later : (ps qs : PropertyList) (text : List ℕ) → date_of qs ≡ Some text
    → is_up_to text (date_of ps) ≡ true → IsNoLater ps qs
no_later ps qs text dated is date up = by (date_of ps) is
  where
    other : (is_date_text text ≡ true) × (up_to text date ≡ true)
    other = both_of (is_date_text text) (up_to text date) (sym (ap (is_up_to date) dated) ∙ up)

    by : (o : Option (List ℕ)) → is_up_to text o ≡ true → is_up_to date o ≡ true
    by None up = absurd (false≢true up)
    by (Some one) up =
        let both = both_of (is_date_text one) (up_to one text) up in
        λ i. (both.0 i) && (up_to_on one text date both.1 other.1 i)

-- nor is anything later than what has no date
pub none_later : (ps qs : PropertyList) → date_of qs ≡ None → IsNoLater ps qs
none_later ps qs none date up = absurd (false≢true (sym (ap (is_up_to date) none) ∙ up))

pub text_later : (ps qs : PropertyList) (text : List ℕ) → date_of qs ≡ Some text
    → is_date_text text ≡ false → IsNoLater ps qs
text_later ps qs text dated not date up =
    let both = both_of (is_date_text text) (up_to text date) (sym (ap (is_up_to date) dated) ∙ up) in
    absurd (false≢true (sym not ∙ both.0))

-- ---- with what is at one place

pub but_at : (ps qs : List PropertyList) (place from : ℕ)
    → ((k : ℕ) → (k ≡ place → ⊥) → slice_get qs k ≡ slice_get ps k) → RisesFrom ps from
    → RisesButAt qs place from
but_at ps qs place from same rises n low here next =
    subst (λ o. IsNoLater (or_empty o) (list_at qs (suc n))) (sym (same n here))
    (subst (λ o. IsNoLater (list_at ps n) (or_empty o)) (sym (same (suc n) next)) (rises n low))

set_other : {X : Type 0} (xs : List X) (n : ℕ) (x : X) (k : ℕ) → (k ≡ n → ⊥)
    → slice_get (slice_set xs n x) k ≡ slice_get xs k
set_other [] n x k other = refl
set_other (y ∷ ys) zero x zero other = absurd (other refl)
set_other (y ∷ ys) zero x (suc k) other = refl
set_other (y ∷ ys) (suc n) x zero other = refl
set_other (y ∷ ys) (suc n) x (suc k) other = set_other ys n x k (λ is. other (ap suc is))

pub rises_but_set : (ps qs : List PropertyList) (place : ℕ) (list : PropertyList) (from : ℕ)
    → qs ≡ slice_set ps place list → RisesFrom ps from → RisesButAt qs place from
rises_but_set ps qs place list from is =
    but_at ps qs place from
    (λ k other. ap (λ l. slice_get l k) is ∙ set_other ps place list k other)

pub rises_but_last : (ps qs : List PropertyList) (list : PropertyList) (from : ℕ)
    → qs ≡ ps ++ list ∷ [] → RisesFrom ps from → RisesButAt qs (length ps) from
rises_but_last ps qs list from is =
    but_at ps qs (length ps) from
    (λ k other. ap (λ l. slice_get l k) is ∙ other_place ps list k other)

-- nothing comes next of the last
pub rises_past : (ps : List PropertyList) (next : ℕ) → length ps ≤ next → RisesTo ps next
rises_past ps next past n is =
    subst (λ o. IsNoLater (list_at ps n) (or_empty o))
    (sym (slice_get_past ps (suc n) (omega (arith, past, is)))) (λ date up. absurd (false≢true up))

pub rises_alone : (ps : List PropertyList) → length ps ≡ 1 → RisesFrom ps 0
rises_alone ps one n low = rises_past ps (suc n) (omega (arith, one)) n refl

pub rises_around : (ps : List PropertyList) (place next from : ℕ) → next ≡ place + 1
    → RisesButAt ps place from → RisesTo ps place → RisesTo ps next → RisesFrom ps from
rises_around ps place next from is others to on n low = by (suc n == place) refl
  where
    at : (b : Bool) → (n == place) ≡ b → (suc n ≡ place → ⊥)
        → IsNoLater (list_at ps n) (list_at ps (suc n))
    at true same other =
        let here : n ≡ place = eqb-true n place same in on n (omega (arith, here, is))
    at false past other = others n low (eqb-false n place past) other

    by : (b : Bool) → (suc n == place) ≡ b → IsNoLater (list_at ps n) (list_at ps (suc n))
    by true same = to n (eqb-true (suc n) place same)
    by false past = at (n == place) refl (eqb-false (suc n) place past)

pub rises_behind : (ps : List PropertyList) (place next from behind : ℕ) → next ≡ place + 1
    → behind ≡ max from next → RisesButAt ps place from → RisesFrom ps behind
rises_behind ps place next from behind is most others n low =
    let left : from ≤ max from next = le-max_left from next in
    let right : next ≤ max from next = le-max_right from next in
    others n (omega (arith, low, most, left))
    (λ same. omega (arith, low, most, right, is, same))
    (λ same. omega (arith, low, most, right, is, same))

-- ---- in a search

falls : (ps : List PropertyList) (from m n k : ℕ) → n ≡ k + m → RisesFrom ps from → from ≤ m
    → IsNoLater (list_at ps m) (list_at ps n)
falls ps from m n zero above rises low date up =
    let one : n ≡ m = omega (arith, above) in
    subst (λ j. is_up_to date (date_of (list_at ps j)) ≡ true) one up
falls ps from m n (suc k) above rises low date up =
    let next : n ≡ suc (k + m) = omega (arith, above) in
    falls ps from m (k + m) k refl rises low date
    (rises (k + m) (omega (arith, low)) date
    (subst (λ j. is_up_to date (date_of (list_at ps j)) ≡ true) next up))

-- where one is dated after the date so is each above
pub undated_above : (c : RepoState) (date : List ℕ) (from middle n : ℕ) → RisesFrom c.properties from
    → from ≤ middle → is_dated c date middle ≡ false → IsUndatedSince c date (middle - 1) n
undated_above c date from middle n rises low fails m later within = by (is_dated c date m) refl
  where
    by : (b : Bool) → is_dated c date m ≡ b → is_dated c date m ≡ false
    by false is = is
    by true is =
        absurd (false≢true (sym fails
        ∙ falls c.properties from middle m (m - middle) (omega (arith, later)) rises low date is))
