use Rattle.std.proofs.Common.{◌≡◌, ◌++◌, map, drop}
use Rattle.std.specs.Map.Iter.{deref_pair}
use Rattle.wire_replies.proofs.locks.copied_locks.Given as goal

abbrev pub invariant-loop-path : goal.invariant-loop-path
invariant-loop-path l = l.locks ++ map deref_pair (drop l.path-index l.found) ≡ map deref_pair l.found
