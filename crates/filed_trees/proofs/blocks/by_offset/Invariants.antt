use Rattle.std.proofs.Common.{◌≡◌, map, reverse, take}
use Rattle.filed_trees.proofs.blocks.by_offset.Given as goal

abbrev pub invariant-loop-k : goal.invariant-loop-k
invariant-loop-k l = map (λ row. row.now) l.rows.items ≡ take l.k (reverse l.pieces)
