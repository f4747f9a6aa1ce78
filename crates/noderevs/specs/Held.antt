-- What the blocks of all revisions hold.
use Rattle.std.specs.Prelude.{ℕ, List, Option, length}
use Rattle.repo_api.specs.Trees.{Tree}
use Rattle.noderevs.specs.{Nodes.{Look, node_in, root_in}, Views.shared_tree, declared.node_rev.Block.Block, declared.node_rev.NodeId.NodeId}
use Rattle.noderevs.specs.declared.nodes.Nodes.{Nodes}

abbrev pub blocks_of : Nodes → List Block
blocks_of ns = ns.blocks

abbrev pub node_at : Nodes → Look
node_at ns = node_in (blocks_of ns)

-- the root of a revision
abbrev pub root_at : Nodes → ℕ → Option NodeId
root_at ns n = root_in (blocks_of ns) n

-- how many revisions there are
abbrev pub count : Nodes → ℕ
count ns = length (blocks_of ns)

-- the tree of each revision; a number that is none has no entries
abbrev pub trees_of : Nodes → ℕ → Tree
trees_of ns n = shared_tree (node_at ns) (root_at ns n)
