-- The items of changes.
use Rattle.std.proofs.Common.{◌≡◌, List, [], ◌∷◌, map, ap, refl}
use Rattle.items.specs.{Values.more, View.row_of}
use Rattle.wire_replies.specs.{Replies.{change_tree, change_trees}, declared.histories.LoggedChange.LoggedChange}

pub row_of-changes : (cs : List LoggedChange) → row_of (map change_tree cs) ≡ change_trees cs
row_of-changes [] = refl
row_of-changes (c ∷ cs) = ap (more (change_tree c)) (row_of-changes cs)
