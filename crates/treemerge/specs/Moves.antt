-- A transaction's tree over other nodes.
use Rattle.std.specs.Prelude.{◌≡◌, Option, Some, None, IsSome, IfSome, option_and_then}
use Rattle.svnpath.specs.Paths.{Component, PathValue}
use Rattle.noderevs.specs.{Held.{node_at, root_at, trees_of}, Nodes.{IsThere, kid_at}, Views.{find_id, shared_tree}, declared.node_rev.NodeId.NodeId}
use Rattle.noderevs.specs.{declared.node_rev.NodeRev.NodeRev, declared.nodes.Nodes.Nodes}
use Rattle.txntree.specs.{Bases.IsBased, Spots.{flat, over, shared_spot, Spot, step}, Spots.Spot.Opened, declared.open.Change.Change}
use Rattle.txntree.specs.declared.open.OpenNode.{OpenNode}

-- each node stands at its path in the tree of its revision, and other nodes show that tree too
pub record HaveTwins (from to : Nodes) : Type 0 where
  pub placed : (id : NodeId) (node : NodeRev) → node_at from id ≡ Some node
      → find_id (node_at from) node.path (root_at from id.rev) ≡ Some id
  pub same : (id : NodeId) → IsSome (node_at from id) → (q : PathValue)
      → trees_of to id.rev q ≡ trees_of from id.rev q

-- what stands among the other nodes where the node does in its own revision
abbrev pub twin : Nodes → Nodes → Option NodeId → Option NodeId
twin from to None = None
twin from to (Some id) =
    option_and_then (λ node. find_id (node_at to) node.path (root_at to id.rev)) (node_at from id)

-- a node of the others beneath which the same stands
pub record IsTwin (from to : Nodes) (old new : Option NodeId) : Type 0 where
  pub same : (q : PathValue) → shared_tree (node_at to) new q ≡ shared_tree (node_at from) old q
  pub there : IfSome new (IsThere (node_at to))

-- the same beneath, over the other nodes
pub record IsMoved (from to : Nodes) (old new : Spot) : Type 0 where
  pub tree : (q : PathValue) → flat (node_at to) new q ≡ flat (node_at from) old q
  pub based : IsBased (node_at to) new

-- an open node stands over the twin of what it stood over, and keeps its own mark
abbrev pub IsMadeOf : Nodes → Nodes → Spot → Spot → Type 0
IsMadeOf from to old new =
    (n : OpenNode) → new ≡ Opened n
    → (m : OpenNode) × (old ≡ Opened m) × (n.own ≡ m.own) × (n.base ≡ twin from to m.base)

-- what stands beneath a name of a node, and what is made of it over a base among the other nodes
pub record IsMovedAt (from to : Nodes) (self : OpenNode) (base : Option NodeId) (name : Component)
    (change : Option Change) : Type 0 where
  pub made : IsMadeOf from to (step (node_at from) name (Opened self))
      (over change (shared_spot (kid_at (node_at to) base name)))
  pub moved : HaveTwins from to → IsBased (node_at from) (Opened self) → IsTwin from to self.base base
      → IsMoved from to (step (node_at from) name (Opened self))
      (over change (shared_spot (kid_at (node_at to) base name)))
