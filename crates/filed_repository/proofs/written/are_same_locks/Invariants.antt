-- Those so far are the same.
use Rattle.std.proofs.Common.{◌≡◌, map, take}
use Rattle.std.specs.Map.Iter.{deref_pair}
use Rattle.filed_repository.proofs.written.are_same_locks.Given as goal

abbrev pub invariant-loop-k : goal.invariant-loop-k
invariant-loop-k l = map deref_pair (take l.k l.locks) ≡ take l.k l.others
