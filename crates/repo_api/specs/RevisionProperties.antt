-- A change of a property of a revision.
use Rattle.std.specs.{Prelude.{ℕ, nat_lt, if◌then◌else◌, List, Option, Some, None, slice_set}, Option.option_or}
use Rattle.refusals.specs.declared.Refusal.{Refusal}
use Rattle.refusals.specs.declared.Refusal.TheVariants as refusals
use Rattle.repo_api.specs.{Kinds.properties_at, Properties.{PropertyList, is_same_value, property_value, with_property, without_property}}
use Rattle.repo_api.specs.{States.{RepoState, youngest}, Judging.is_property_name, declared.property_ask.PreviousValue.PreviousValue}
use Rattle.repo_api.specs.{declared.property_ask.PreviousValue.TheVariants.{Any, Exactly}, declared.property_ask.PropertyAsk.PropertyAsk}

-- the revision is there
abbrev pub revision_refusal : ℕ → ℕ → Option Refusal
revision_refusal newest n = if nat_lt newest n then Some refusals.NoSuchRevision else None

abbrev pub property_name_refusal : List ℕ → Option Refusal
property_name_refusal name = if is_property_name name then None else Some refusals.NotSupported

-- the value that a property has is the one that it has to have before it is changed, or any will do
abbrev pub previous_refusal : PreviousValue → Option (List ℕ) → Option Refusal
previous_refusal Any value = None
previous_refusal (Exactly previous) value =
    if is_same_value value previous then None else Some refusals.PreviousValueDiffers

-- why a change of a property of a revision is refused: for the revision, then the name, and then the
-- value that the property has
abbrev pub property_refusal : RepoState → PropertyAsk → Option Refusal
property_refusal c ask =
    option_or (revision_refusal (youngest c) ask.revision)
    (option_or (property_name_refusal ask.name)
    (previous_refusal ask.previous (property_value (properties_at c ask.revision) ask.name)))

-- the properties with this value of the name, and without the name where there is no value
abbrev pub property_changed : List ℕ → Option (List ℕ) → PropertyList → PropertyList
property_changed name None ps = without_property ps name
property_changed name (Some value) ps = with_property ps name value

-- the repository after a change of a property of a revision
abbrev pub with_changed_property : RepoState → ℕ → List ℕ → Option (List ℕ) → RepoState
with_changed_property c n name value = record c {
  properties = slice_set c.properties n (property_changed name value (properties_at c n));
}
