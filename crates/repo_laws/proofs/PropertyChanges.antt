-- A change of a property of a revision, and the next one of the same property.
use Rattle.std.proofs.Common.{◌≡◌, ℕ, zero, suc, ◌<◌, false, true, cond, List, [], ◌∷◌, length, Option, Some, None, refl, ap, sym, ◌∙◌, arith}
use Rattle.std.specs.{Prelude.{slice_get, slice_set}, Option.option_or, Cmp.Lexicographic.{slice_cmp, bytes_decides, texts_ties}}
use Rattle.std.specs.{Ordering.{nat_cmp, is_eq, match_ordering}, declared.cmp.Ordering.Ordering, declared.cmp.Ordering.TheVariants.{Less, Equal, Greater}}
use Rattle.refusals.specs.{declared.Refusal.Refusal, declared.Refusal.TheVariants.PreviousValueDiffers}
use Rattle.repo_api.specs.{Kinds.{or_empty, properties_at}, Properties.{is_same_value, property_value, PropertyList, with_property}}
use Rattle.repo_api.specs.RevisionProperties.{previous_refusal, property_changed, property_name_refusal, property_refusal, revision_refusal}
use Rattle.repo_api.specs.{RevisionProperties.with_changed_property, States.{RepoState, youngest}, declared.property_ask.PreviousValue.PreviousValue}
use Rattle.repo_api.specs.{declared.property_ask.PreviousValue.TheVariants.Exactly, declared.property_ask.PropertyAsk.PropertyAsk}

-- what is put in a list stands there
pub set_there : {A : Type 0} (xs : List A) (n : ℕ) (x : A) → n < length xs → slice_get (slice_set xs n x) n ≡ Some x
set_there [] n x lt = absurd (omega (arith, lt))
set_there (y ∷ ys) zero x lt = refl
set_there (y ∷ ys) (suc n) x lt = set_there ys n x (omega (arith, lt))

itself : (name : List ℕ) → is_eq (slice_cmp nat_cmp name name) ≡ true
itself name = sym (texts_ties name name) ∙ (bytes_decides name name).1 refl

-- a property that is given a value has it
value_there : (name value : List ℕ) (ps : PropertyList) → property_value (with_property ps name value) name ≡ Some value
value_there name value [] = ap (λ b. cond b (Some value) None) (itself name)
value_there name value (e ∷ es) = by (slice_cmp nat_cmp name e.0) refl (value_there name value es)
  where
    by : (o : Ordering) → slice_cmp nat_cmp name e.0 ≡ o → property_value (with_property es name value) name ≡ Some value
        → property_value (match_ordering o ((name, value) ∷ e ∷ es) ((e.0, value) ∷ es) (e ∷ with_property es name value)) name ≡ Some value
    by Less is later = ap (λ b. cond b (Some value) (property_value (e ∷ es) name)) (itself name)
    by Equal is later = ap (λ (o : Ordering). cond (is_eq o) (Some value) (property_value es name)) is
    by Greater is later = ap (λ (o : Ordering). cond (is_eq o) (Some e.1) (property_value (with_property es name value) name)) is ∙ later

none_first : (a b : Option Refusal) → option_or a b ≡ None → a ≡ None
none_first None b h = refl
none_first (Some r) b h = absurd (cc h)

none_second : (a b : Option Refusal) → option_or a b ≡ None → b ≡ None
none_second None b h = h
none_second (Some r) b h = absurd (cc h)

-- after a change of a property to a value, one that asks for another value before is refused
pub refused_after : (c : RepoState) (first second : PropertyAsk) (value : List ℕ) (previous : Option (List ℕ))
    → property_refusal c first ≡ None → first.revision < length c.properties → first.value ≡ Some value
    → second.revision ≡ first.revision → second.name ≡ first.name → second.previous ≡ Exactly previous → is_same_value (Some value) previous ≡ false
    → property_refusal (with_changed_property c first.revision first.name first.value) second ≡ Some PreviousValueDiffers
refused_after c first second value previous accepted lt valued same_revision same_name asks other =
    ap (λ n. judged n second.name second.previous) same_revision
    ∙ ap (λ name. judged first.revision name second.previous) same_name
    ∙ ap (λ p. judged first.revision first.name p) asks
    ∙ ap (λ r. option_or r (option_or (property_name_refusal first.name) (differs first.revision first.name))) (none_first number _ accepted)
    ∙ ap (λ r. option_or r (differs first.revision first.name)) (none_first (property_name_refusal first.name) _ (none_second number _ accepted))
    ∙ ap (λ v. previous_refusal (Exactly previous) v) has
    ∙ ap (λ b. cond b None (Some PreviousValueDiffers)) other
  where
    new : RepoState
    new = with_changed_property c first.revision first.name first.value

    number : Option Refusal
    number = revision_refusal (youngest c) first.revision

    judged : ℕ → List ℕ → PreviousValue → Option Refusal
    judged n name p = option_or (revision_refusal (youngest new) n) (option_or (property_name_refusal name) (previous_refusal p (property_value (properties_at new n) name)))

    differs : ℕ → List ℕ → Option Refusal
    differs n name = previous_refusal (Exactly previous) (property_value (properties_at new n) name)

    has : property_value (properties_at new first.revision) first.name ≡ Some value
    has =
        ap (λ (o : Option PropertyList). property_value (or_empty o) first.name) (set_there c.properties first.revision _ lt)
        ∙ ap (λ v. property_value (property_changed first.name v (properties_at c first.revision)) first.name) valued
        ∙ value_there first.name value (properties_at c first.revision)
