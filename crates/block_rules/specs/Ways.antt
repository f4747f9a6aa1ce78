-- What is known of the way to a node of a block's tree.
use Rattle.std.specs.Prelude.{◌≡◌, ℕ, Option, Some, slice_get, take}
use Rattle.svnpath.specs.Paths.{PathValue}
use Rattle.noderevs.specs.declared.node_rev.NodeId.{NodeId}
use Rattle.block_rules.specs.{Rules.{id_in, past_of}, declared.next_block.NextBlock.NextBlock, declared.way.Way.Way}

-- the id that a path of the block's tree leads to
abbrev pub id_at : NextBlock → PathValue → Option NodeId
id_at tree path = id_in (past_of tree.nodes.now) tree.block.now path

-- each id that is known is that at its depth of the path
abbrev pub IsWay : NextBlock → Way → Type 0
IsWay tree way = (depth : ℕ) (id : Option NodeId) → slice_get way.ids.items depth ≡ Some id
    → id ≡ id_at tree (take depth way.path.now)
