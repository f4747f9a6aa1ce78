-- The items of properties.
use Rattle.std.proofs.Common.{◌≡◌, ℕ, List, [], ◌∷◌, Option, map, ap, refl}
use Rattle.repo_api.specs.Properties.{PropertyList}
use Rattle.items.specs.{Values.{both, ItemValue, list, more, string}, View.row_of}
use Rattle.wire_replies.specs.Replies.{optional_string_trees, property_change_trees, property_trees}

-- `( name value )`
abbrev pub property_tree : List ℕ × List ℕ → ItemValue
property_tree p = list (both (string p.0) (string p.1))

pub row_of-properties : (ps : PropertyList) → row_of (map property_tree ps) ≡ property_trees ps
row_of-properties [] = refl
row_of-properties (p ∷ ps) = ap (more (property_tree p)) (row_of-properties ps)

-- `( name [ value ] )`
abbrev pub property_change_tree : List ℕ × Option (List ℕ) → ItemValue
property_change_tree c = list (both (string c.0) (list (optional_string_trees c.1)))

pub row_of-property_changes : (cs : List (List ℕ × Option (List ℕ))) → row_of (map property_change_tree cs) ≡ property_change_trees cs
row_of-property_changes [] = refl
row_of-property_changes (c ∷ cs) = ap (more (property_change_tree c)) (row_of-property_changes cs)
