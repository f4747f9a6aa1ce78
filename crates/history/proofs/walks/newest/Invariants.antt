-- The newest of those so far.
use Rattle.std.proofs.Common.{◌≡◌, take}
use Rattle.history.specs.Walks.{one_above, above_heads}
use Rattle.history.proofs.walks.newest.Given as goal

abbrev pub invariant-loop-head : goal.invariant-loop-head
invariant-loop-head l = one_above l.newest ≡ above_heads (take l.head-index l.heads)
