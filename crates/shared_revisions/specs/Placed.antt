-- Nodes stand at their paths in the trees of their revisions.
use Rattle.std.specs.Prelude.{◌≡◌, ℕ, Option, Some, slice_get}
use Rattle.noderevs.specs.{Nodes.{Look, with_block}, Views.find_id, declared.node_rev.Block.Block, declared.node_rev.NodeId.NodeId}
use Rattle.noderevs.specs.declared.node_rev.NodeRev.{NodeRev}

abbrev pub ArePlaced : Look → (ℕ → Option NodeId) → Type 0
ArePlaced look root =
    (id : NodeId) (node : NodeRev) → look id ≡ Some node
    → find_id look node.path (root id.rev) ≡ Some id

-- so do those of a block that comes behind those that are there
abbrev pub IsPlacedBlock : Look → ℕ → Block → Type 0
IsPlacedBlock look rev block =
    (k : ℕ) (node : NodeRev) → slice_get block.nodes.items k ≡ Some node
    → find_id (with_block look rev block.nodes.items) node.path (Some block.root)
    ≡ Some (record { rev = rev; place = k })
