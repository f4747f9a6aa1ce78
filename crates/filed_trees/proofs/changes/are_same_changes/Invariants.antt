use Rattle.std.proofs.Common.{◌≡◌, take}
use Rattle.filed_trees.proofs.changes.are_same_changes.Given as goal

abbrev pub invariant-loop-k : goal.invariant-loop-k
invariant-loop-k l = take l.k l.changes ≡ take l.k l.others
