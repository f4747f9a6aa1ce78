-- What is held, as the state of a repository.
use Rattle.std.specs.{Prelude.{ℕ, List, Some}, FinMap.empty}
use Rattle.repo_api.specs.{States.{LockMap, RepoState, Revision, trees_in}, Trees.Tree}
use Rattle.noderevs.specs.{Held.{count, node_at, trees_of}, Nodes.with_block, Views.shared_tree, declared.node_rev.Block.Block, declared.nodes.Nodes.Nodes}
use Rattle.shared_revisions.specs.{Shown.the_shown, declared.held.Held.Held}

abbrev pub revisions_of : Held → List Revision
revisions_of h = (the_shown (trees_of h.nodes) h.changes h.shown).0

-- what is held, with no locks
abbrev pub held_state : Held → RepoState
held_state h = record {
  uuid = h.uuid;
  revisions = revisions_of h;
  properties = h.properties;
  locks = empty;
}

-- what is held, with these locks
abbrev pub state_of : Held → LockMap → RepoState
state_of h locks = record (held_state h) { locks = locks }

-- the tree of a revision
abbrev pub tree_held : Held → ℕ → Tree
tree_held h n = trees_in (revisions_of h) n

-- the tree of a block that comes behind those that are there
abbrev pub block_tree : Nodes → Block → Tree
block_tree ns b = shared_tree (with_block (node_at ns) (count ns) b.nodes.items) (Some b.root)
