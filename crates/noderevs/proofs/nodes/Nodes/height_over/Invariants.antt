use Rattle.std.proofs.Common.{drop, map}
use Rattle.std.specs.Map.Iter.{deref}
use Rattle.noderevs.specs.{Held.node_at, Nodes.with_block}
use Rattle.noderevs.proofs.Heights.{IsRising}
use Rattle.noderevs.proofs.nodes.Nodes.height_over.Given as goal

abbrev pub invariant-loop-entry : goal.invariant-loop-entry
invariant-loop-entry l =
    IsRising (with_block (node_at l.self) l.rev l.block) l.kids l.height
    (map deref (drop l.entry-index l.entry-items))
