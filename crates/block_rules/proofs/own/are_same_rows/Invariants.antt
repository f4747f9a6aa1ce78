use Rattle.std.proofs.Common.{◌≡◌, map, take}
use Rattle.std.specs.Map.Iter.{deref_pair}
use Rattle.block_rules.proofs.own.are_same_rows.Given as goal

abbrev pub invariant-loop-k : goal.invariant-loop-k
invariant-loop-k l = map deref_pair (take l.k l.rows) ≡ map deref_pair (take l.k l.others)
