-- Properties: the pairs of a name and a value, by the names' bytes.
use Rattle.std.specs.{Prelude.{ℕ, ◌==◌, Bool, true, false, List, Option, Some, None, fold}, BTreeMap.{insert_entry, is_at}, Map.{lookup, remove_entry}}
use Rattle.std.specs.{Cmp.Lexicographic.{slice_cmp, pointwise}, Ordering.nat_cmp}

abbrev pub PropertyList : Type 0
PropertyList = List (List ℕ × List ℕ)

abbrev pub with_property : PropertyList → List ℕ → List ℕ → PropertyList
with_property = insert_entry (slice_cmp nat_cmp)

-- the properties, with the values of others where both have one of a name
abbrev pub with_properties : PropertyList → PropertyList → PropertyList
with_properties ps others = fold (λ qs p. with_property qs p.0 p.1) ps others

abbrev pub without_property : PropertyList → List ℕ → PropertyList
without_property ps name = remove_entry (is_at (slice_cmp nat_cmp name)) ps

-- the value of the property of this name, if there is one
abbrev pub property_value : PropertyList → List ℕ → Option (List ℕ)
property_value ps name = lookup (is_at (slice_cmp nat_cmp name)) ps

-- both are the same value, or both none
abbrev pub is_same_value : Option (List ℕ) → Option (List ℕ) → Bool
is_same_value None None = true
is_same_value None (Some other) = false
is_same_value (Some value) None = false
is_same_value (Some value) (Some other) = pointwise ◌==◌ value other
