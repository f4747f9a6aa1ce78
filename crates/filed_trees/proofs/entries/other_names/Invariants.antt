use Rattle.std.proofs.Common.{◌⊎◌, take}
use Rattle.std.specs.{Borrow.Bor, Prelude.{All, Contains, IsSome}}
use Rattle.svnpath.specs.Paths.{Component}
use Rattle.noderevs.specs.declared.node_rev.NodeId.{NodeId}
use Rattle.filed_trees.specs.Comparing.{id_at}
use Rattle.filed_trees.proofs.entries.other_names.Given as goal

abbrev pub invariant-loop-entry : goal.invariant-loop-entry
invariant-loop-entry l =
    All (λ (e : Bor (Component × NodeId)). IsSome (id_at l.ids.entries e.now.0) ⊎ Contains l.others.items e.now.0)
    (take l.entry-index l.entry-items)
