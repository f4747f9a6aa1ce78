use Rattle.std.proofs.Common.{◌≡◌, ◌++◌, take}
use Rattle.fsfs_nodes.specs.Changes.{changes_bytes}
use Rattle.fsfs_nodes.proofs.change.append_changes.Given as goal

abbrev pub invariant-loop-change : goal.invariant-loop-change
invariant-loop-change l = l.out.items ≡ l.fn.out.items ++ changes_bytes (take l.change-index l.changes)
