-- What differs in properties.
use Rattle.std.specs.Prelude.{ℕ, Bool, not, List, Option, filter, fold, map}
use Rattle.repo_api.specs.Properties.{is_same_value, property_value, PropertyList, with_property}

-- the names that are in one list or the other, by their bytes
abbrev pub names_in_both : PropertyList → PropertyList → List (List ℕ)
names_in_both old new = map (λ p. p.0) (fold (λ ps p. with_property ps p.0 p.1) old new)

-- whether a property has another value now, or has come or gone
abbrev pub is_other : PropertyList → PropertyList → List ℕ → Bool
is_other old new name = not (is_same_value (property_value old name) (property_value new name))

-- the values of these properties now, of those that differ
abbrev pub differing_of : PropertyList → PropertyList → List (List ℕ)
    → List (List ℕ × Option (List ℕ))
differing_of old new names =
    map (λ name. (name, property_value new name)) (filter (is_other old new) names)

-- the properties that differ, by their names' bytes, each with the value that it has now, if any
abbrev pub differing : PropertyList → PropertyList → List (List ℕ × Option (List ℕ))
differing old new = differing_of old new (names_in_both old new)
