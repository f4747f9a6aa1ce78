use Rattle.std.proofs.Common.{◌≡◌, ◌<◌, ℕ, Some, slice_get}
use Rattle.noderevs.specs.declared.node_rev.NodeRev.{NodeRev}
use Rattle.block_rules.specs.{Rules.{IsRightNode, past_of}, Ways.IsWay}
use Rattle.block_rules.proofs.next_block.NextBlock.are_right_on.Given as goal

abbrev pub invariant-loop-place : goal.invariant-loop-place
invariant-loop-place l =
    IsWay l.self l.way
    × ((k : ℕ) (node : NodeRev) → k < l.place → slice_get l.self.block.now.nodes.items k ≡ Some node
    → IsRightNode (past_of l.self.nodes.now) l.self.block.now l.self.changes.now k node)
