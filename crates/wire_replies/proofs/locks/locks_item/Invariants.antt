use Rattle.std.proofs.Common.{◌≡◌, ◌++◌, map, drop}
use Rattle.items.specs.View.{value_of}
use Rattle.wire_replies.proofs.LockRows.{tree_of_lock}
use Rattle.wire_replies.proofs.locks.locks_item.Given as goal

abbrev pub invariant-loop-path : goal.invariant-loop-path
invariant-loop-path l = map value_of l.items.items ++ map tree_of_lock (drop l.path-index l.path-items) ≡ map tree_of_lock l.locks
