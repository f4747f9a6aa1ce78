-- What is in the list already, and what is left.
use Rattle.std.proofs.Common.{◌≡◌, ◌++◌}
use Rattle.revision_data.proofs.change_list.ChangeList.from_map.Given as goal

abbrev pub invariant-loop-path : goal.invariant-loop-path
invariant-loop-path l = l.list.items ++ l.path-iterator ≡ l.fn.changes.entries
