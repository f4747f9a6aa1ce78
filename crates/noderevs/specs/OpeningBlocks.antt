-- The block of revision 0.
use Rattle.std.specs.Prelude.{◌≡◌, List, [], ◌∷◌, None}
use Rattle.svnpath.specs.Paths.{Component}
use Rattle.repo_api.specs.Opening.{opening_root}
use Rattle.noderevs.specs.{Nodes.kid_of, Views.shared_entry, declared.node_rev.Block.Block, declared.node_rev.NodeId.NodeId, declared.node_rev.NodeRev.NodeRev}

abbrev pub opening_id : NodeId
opening_id = record { rev = 0; place = 0 }

-- a directory without entries
pub record IsOpeningNode (node : NodeRev) : Type 0 where
  pub entry : shared_entry opening_id node ≡ opening_root
  pub height : node.height ≡ 0
  pub kids : (name : Component) → kid_of name node ≡ None

-- that node alone
pub record IsOpeningBlock (block : Block) : Type 0 where
  pub node : NodeRev
  pub nodes : block.nodes.items ≡ node ∷ []
  pub root : block.root ≡ opening_id
  pub is : IsOpeningNode node

-- such a block alone
pub record AreOpening (blocks : List Block) : Type 0 where
  pub block : Block
  pub is : IsOpeningBlock block
  pub alone : blocks ≡ block ∷ []
