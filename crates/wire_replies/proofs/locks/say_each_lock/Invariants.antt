-- The locks so far are written.
use Rattle.std.proofs.Common.{map, drop}
use Rattle.std.specs.Map.Iter.{deref_pair}
use Rattle.wire_replies.proofs.{LockRows.tree_of_lock, Row.Written}
use Rattle.wire_replies.proofs.locks.say_each_lock.Given as goal

abbrev pub invariant-loop-path : goal.invariant-loop-path
invariant-loop-path g l =
    Written tree_of_lock g.S.ReplySink.writes l.fn.out l.out (map deref_pair l.found) (map deref_pair (drop l.path-index l.found))
