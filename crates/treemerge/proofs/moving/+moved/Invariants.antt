use Rattle.txntree.specs.Changes.{IsWalking}
use Rattle.treemerge.specs.Moves.{IsMovedAt}
use Rattle.treemerge.proofs.moving.+moved.Given as goal

abbrev pub invariant-moved-loop-name : goal.invariant-moved-loop-name
invariant-moved-loop-name l = IsWalking l.fn.node l.name-iterator l.changed (IsMovedAt l.from l.to l.fn.node l.base)
