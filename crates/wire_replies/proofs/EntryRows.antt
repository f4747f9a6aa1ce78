-- The items of entries.
use Rattle.std.proofs.Common.{◌≡◌, ℕ, List, [], ◌∷◌, map, ap, refl}
use Rattle.items.specs.{Values.{ItemValue, more}, View.row_of}
use Rattle.wire_replies.specs.{Replies.{entry_tree, entry_trees}, declared.entries.NodeInfo.NodeInfo}

-- an entry under its name
abbrev pub tree_of_entry : List ℕ × NodeInfo → ItemValue
tree_of_entry e = entry_tree e.0 e.1

pub row_of-entries : (es : List (List ℕ × NodeInfo)) → row_of (map tree_of_entry es) ≡ entry_trees es
row_of-entries [] = refl
row_of-entries (e ∷ es) = ap (more (tree_of_entry e)) (row_of-entries es)
