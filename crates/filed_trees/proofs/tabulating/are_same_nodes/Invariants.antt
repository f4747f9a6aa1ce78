use Rattle.filed_trees.proofs.Reading.{SameBefore}
use Rattle.filed_trees.proofs.tabulating.are_same_nodes.Given as goal

abbrev pub invariant-loop-place : goal.invariant-loop-place
invariant-loop-place l = SameBefore l.block l.nodes l.rev l.place
