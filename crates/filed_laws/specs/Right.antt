-- The youngest revision, which keeps the rules.
use Rattle.std.specs.Prelude.{◌≡◌, ◌∷◌, ◌++◌, [], length}
use Rattle.noderevs.specs.{Held.{blocks_of, count}, declared.node_rev.Block.Block, declared.nodes.Nodes.Nodes}
use Rattle.block_rules.specs.Rules.{IsNextRevision, past_of}
use Rattle.filed_writing.specs.declared.revision.Revision.{Revision}

-- its nodes are those of the revisions before and a block that may be the next revision with its
-- changes, and each revision before has a table
pub record IsRightRevision (r : Revision) : Type 0 where
  pub past : Nodes
  pub block : Block
  pub nodes : blocks_of r.nodes.now ≡ blocks_of past ++ block ∷ []
  pub number : r.number ≡ count past
  pub tabled : r.number ≡ length r.tables.now
  pub rules : IsNextRevision (past_of past) block r.changes.now
