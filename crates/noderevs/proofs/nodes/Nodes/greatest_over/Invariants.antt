use Rattle.std.proofs.Common.{map, take}
use Rattle.std.specs.Map.Iter.{deref}
use Rattle.noderevs.specs.{Heights.IsHeightOver, Held.node_at, Nodes.with_block}
use Rattle.noderevs.proofs.nodes.Nodes.greatest_over.Given as goal

abbrev pub invariant-loop-entry : goal.invariant-loop-entry
invariant-loop-entry l =
    IsHeightOver (with_block (node_at l.self) l.rev l.block) (map deref (take l.entry-index l.entries)) l.height
