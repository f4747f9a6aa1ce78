-- What tables keep of the revisions before.
use Rattle.std.specs.Prelude.{◌≤◌, ℕ, List, IfSome}
use Rattle.noderevs.specs.declared.node_rev.NodeId.{NodeId}
use Rattle.filed_trees.specs.{Tables.placed_in, declared.placed.Placed.Placed, declared.table.Table.Table}

-- what is kept of a node revision names revisions up to this one
pub record NamesUpTo (n : ℕ) (placed : Placed) : Type 0 where
  pub id : placed.id.revision ≤ n
  pub text : IfSome placed.text (λ line. line.revision ≤ n)
  pub properties : IfSome placed.properties (λ line. line.revision ≤ n)

-- what the table of a revision keeps names revisions up to it
abbrev pub AreEarlierLines : List Table → Type 0
AreEarlierLines tables = (id : NodeId) → IfSome (placed_in tables id) (NamesUpTo id.rev)
