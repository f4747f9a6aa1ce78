use Rattle.std.proofs.Common.{◌≡◌, ◌++◌, map, drop}
use Rattle.items.specs.View.{value_of}
use Rattle.wire_replies.proofs.PropertyRows.{property_change_tree}
use Rattle.wire_replies.proofs.file_revisions.property_changes_item.Given as goal

abbrev pub invariant-loop-change : goal.invariant-loop-change
invariant-loop-change l = map value_of l.items.items ++ map property_change_tree (drop l.change-index l.change-items) ≡ map property_change_tree l.changes
