use Rattle.std.proofs.Common.{◌≡◌, ◌++◌, map, drop}
use Rattle.items.specs.View.{value_of}
use Rattle.wire_replies.proofs.EntryRows.{tree_of_entry}
use Rattle.wire_replies.proofs.entries.entries_item.Given as goal

abbrev pub invariant-loop-name : goal.invariant-loop-name
invariant-loop-name l = map value_of l.items.items ++ map tree_of_entry (drop l.name-index l.name-items) ≡ map tree_of_entry l.entries
