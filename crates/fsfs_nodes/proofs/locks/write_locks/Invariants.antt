use Rattle.std.proofs.Common.{◌≡◌, take, map}
use Rattle.std.specs.List.{flat_map}
use Rattle.fsfs_text.specs.Dumps.{pair_bytes}
use Rattle.fsfs_nodes.specs.Locks.{lock_pair}
use Rattle.fsfs_nodes.proofs.locks.write_locks.Given as goal

abbrev pub invariant-loop-path : goal.invariant-loop-path
invariant-loop-path l =
    l.out.items ≡ flat_map pair_bytes (map lock_pair (map (λ l. (l.0.now, l.1.now)) (take l.path-index l.locks)))
