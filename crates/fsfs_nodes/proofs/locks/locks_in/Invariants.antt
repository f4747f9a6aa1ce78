use Rattle.std.proofs.Common.{◌≡◌, ◌-◌, length}
use Rattle.fsfs_nodes.specs.Locks.{locks_within}
use Rattle.fsfs_nodes.proofs.FolderLoops.{locks_behind}
use Rattle.repo_api.specs.declared.limits.TheConstants.{LOCK_LIMIT}
use Rattle.fsfs_nodes.proofs.locks.locks_in.Given as goal

abbrev pub invariant-loop-key : goal.invariant-loop-key
invariant-loop-key l = locks_behind l.locks.items (locks_within (LOCK_LIMIT - length l.locks.items) l.key-iterator) ≡ locks_within LOCK_LIMIT l.rows
