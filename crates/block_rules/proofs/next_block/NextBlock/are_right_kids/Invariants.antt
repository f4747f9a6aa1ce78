use Rattle.std.proofs.Common.{map, take}
use Rattle.std.specs.{List.All, Map.Iter.deref}
use Rattle.svnpath.specs.Paths.{Component}
use Rattle.noderevs.specs.declared.node_rev.NodeId.{NodeId}
use Rattle.block_rules.specs.Rules.{IsRightKid, past_of}
use Rattle.block_rules.proofs.next_block.NextBlock.are_right_kids.Given as goal

abbrev pub invariant-loop-entry : goal.invariant-loop-entry
invariant-loop-entry l =
    All (λ (e : Component × NodeId). IsRightKid (past_of l.self.nodes.now) l.self.block.now l.self.changes.now
    l.place l.node.path e.0 e.1) (map deref (take l.entry-index l.new))
