use Rattle.std.proofs.Common.{take}
use Rattle.std.specs.{Borrow.Bor, List.All}
use Rattle.svnpath.specs.{Components.IsComponent, Paths.Component}
use Rattle.noderevs.specs.declared.node_rev.NodeId.{NodeId}
use Rattle.block_rules.proofs.kids.are_components.Given as goal

abbrev pub invariant-loop-entry : goal.invariant-loop-entry
invariant-loop-entry l = All (λ (e : Bor (Component × NodeId)). IsComponent e.now.0) (take l.entry-index l.entry-items)
