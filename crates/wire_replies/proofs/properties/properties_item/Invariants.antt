use Rattle.std.proofs.Common.{◌≡◌, ◌++◌, map}
use Rattle.items.specs.View.{value_of}
use Rattle.wire_replies.proofs.PropertyRows.{property_tree}
use Rattle.wire_replies.proofs.properties.properties_item.Given as goal

abbrev pub invariant-loop-name : goal.invariant-loop-name
invariant-loop-name l = map value_of l.items.items ++ map property_tree l.name-iterator ≡ map property_tree l.properties
