use Rattle.std.proofs.Common.{◌≡◌, map, take}
use Rattle.filed_trees.specs.Tables.{placed_of}
use Rattle.filed_trees.proofs.table.table_of.Given as goal

abbrev pub invariant-loop-piece : goal.invariant-loop-piece
invariant-loop-piece l = l.placed.items ≡ map (λ p. placed_of p.now.node) (take l.piece-index l.pieces)
