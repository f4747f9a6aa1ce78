-- What a further revision adds, and what a change of properties leaves.
use Rattle.std.specs.Prelude.{◌≡◌, [], ◌∷◌, ◌++◌}
use Rattle.repo_api.specs.{Properties.PropertyList, States.{ChangeMap, RepoState, TreeMap}, Trees.Tree}
use Rattle.noderevs.specs.{Held.blocks_of, declared.node_rev.Block.Block}
use Rattle.shared_revisions.specs.{Contents.{block_tree, held_state, revisions_of}, Maps.IsMapOf, declared.held.Held.Held}

-- behind what was held come one block and one list of changes
pub record HasOneMore (before after : Held) : Type 0 where
  pub block : Block
  pub blocks : blocks_of after.nodes ≡ blocks_of before.nodes ++ block ∷ []
  pub change : ChangeMap
  pub changes : after.changes ≡ before.changes ++ change ∷ []

-- after the revisions that were there comes one of this tree, with these changes
abbrev pub ShowsOneMore : Held → Held → Tree → ChangeMap → Type 0
ShowsOneMore before after tree change =
    (m : TreeMap) → IsMapOf tree m
    → revisions_of after ≡ revisions_of before ++ record { tree = m; changes = change } ∷ []

-- one revision more of this tree, with these changes and these properties, and nothing else, has
-- come after what is held
pub record HasRevision (before after : Held) (tree : Tree) (change : ChangeMap)
    (properties : PropertyList) : Type 0 where
  pub more : HasOneMore before after
  pub revisions : ShowsOneMore before after tree change
  pub uuid : after.uuid ≡ before.uuid
  pub lists : after.properties ≡ before.properties ++ properties ∷ []

-- so has one with this block
pub record HasNext (before after : Held) (block : Block) (change : ChangeMap)
    (properties : PropertyList) : Type 0 where
  pub blocks : blocks_of after.nodes ≡ blocks_of before.nodes ++ block ∷ []
  pub changes : after.changes ≡ before.changes ++ change ∷ []
  pub revisions : ShowsOneMore before after (block_tree before.nodes block) change
  pub uuid : after.uuid ≡ before.uuid
  pub lists : after.properties ≡ before.properties ++ properties ∷ []

-- the nodes and the lists of changes are those that were held
pub record HasSame (before after : Held) : Type 0 where
  pub blocks : blocks_of after.nodes ≡ blocks_of before.nodes
  pub changes : after.changes ≡ before.changes

-- they are, and the state is changed so
abbrev pub HasSameBut : Held → Held → (RepoState → RepoState) → Type 0
HasSameBut before after change =
    HasSame before after × (held_state after ≡ change (held_state before))
