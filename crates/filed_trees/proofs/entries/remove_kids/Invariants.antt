use Rattle.std.proofs.Common.{◌≡◌, Some, take}
use Rattle.std.specs.Prelude.{All}
use Rattle.svnpath.specs.Paths.{Component}
use Rattle.noderevs.specs.{Nodes.kid_named, declared.node_rev.NodeId.NodeId}
use Rattle.filed_trees.proofs.entries.remove_kids.Given as goal

abbrev pub invariant-loop-name : goal.invariant-loop-name
invariant-loop-name l =
    (name : Component) (id : NodeId) → kid_named l.kids name ≡ Some id
    → (kid_named l.fn.kids name ≡ Some id) × All (λ n. n ≡ name → ⊥) (take l.name-index l.names)
