-- The items of the links of a failure.
use Rattle.std.proofs.Common.{◌≡◌, List, [], ◌∷◌, map, ap, refl}
use Rattle.items.specs.{Values.more, View.row_of}
use Rattle.wire_replies.specs.{Replies.{link_item, link_items}, declared.failures.FailureLink.FailureLink}

pub row_of-links : (ls : List FailureLink) → row_of (map link_item ls) ≡ link_items ls
row_of-links [] = refl
row_of-links (l ∷ ls) = ap (more (link_item l)) (row_of-links ls)
