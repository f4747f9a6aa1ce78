-- The rules by which a block of nodes may be the next revision of a repository.
use Rattle.std.specs.Prelude.{◌≡◌, ◌≤◌, ◌<◌, ◌⊎◌, ◌-◌, ◌+◌, ◌==◌, ℕ, true, false, Bool, List, [], ◌∷◌, ◌++◌, length, Option, Some, None, IsSomeAnd, Contains}
use Rattle.std.specs.{Prelude.{slice_get, take}, Arc.arc_value, List.{list_all, list_any, range_with_len}}
use Rattle.svnpath.specs.{Components.IsComponent, Paths.{Component, PathValue}, declared.component.TheConstants.DEPTH_LIMIT}
use Rattle.repo_api.specs.{Histories.Changed, Marks.shown, Properties.PropertyList, Trees.{is_directory_content, Tree}, declared.entry.Content.Content}
use Rattle.repo_api.specs.{declared.entry.Content.TheVariants.File, declared.limits.TheConstants.TEXT_LIMIT}
use Rattle.history_marks.specs.{Transactions.has_made, Quiet.own_revision}
use Rattle.noderevs.specs.{Heights.IsHeight, Held.{count, node_at, root_at}, Nodes.{IsThere, kid_of, Look, with_block}, Views.{find_id, shared_tree}}
use Rattle.noderevs.specs.{declared.node_rev.Block.Block, declared.node_rev.NodeId.NodeId, declared.node_rev.NodeRev.NodeRev, declared.nodes.Nodes.Nodes}
use Rattle.revision_data.specs.Found.{found}

-- the nodes of the revisions before, and the root of each
pub record Before : Type 0 where
  pub look : Look
  pub root : ℕ → Option NodeId
  pub count : ℕ

abbrev pub past_of : Nodes → Before
past_of nodes = record { look = node_at nodes; root = root_at nodes; count = count nodes }

-- the tree of a revision before
abbrev pub tree_before : Before → ℕ → Tree
tree_before past n = shared_tree past.look (past.root n)

-- the id at a path of the youngest revision before
abbrev pub id_before : Before → PathValue → Option NodeId
id_before past p = find_id past.look p (past.root (past.count - 1))

-- the nodes of a block, beside those that are there
abbrev pub beside : Before → Block → Look
beside past b = with_block past.look past.count b.nodes.items

-- the id at a path of the block's tree
abbrev pub id_in : Before → Block → PathValue → Option NodeId
id_in past b p = find_id (beside past b) p (Some b.root)

-- something was added or replaced at the path
abbrev pub makes_at : List Changed → PathValue → Bool
makes_at changes p = has_made (found changes p)

-- at the path or above it
abbrev pub is_made : List Changed → PathValue → Bool
is_made changes p =
    list_any (λ depth. makes_at changes (take depth p)) (range_with_len 0 (length p + 1))

-- an entry at this path is a node of the block in front of this place, which was made there
pub record IsNewKid (past : Before) (b : Block) (place : ℕ) (path : PathValue) (kid : NodeId) : Type 0 where
  pub here : kid.rev ≡ past.count
  pub front : kid.place < place
  pub at : IsSomeAnd (slice_get b.nodes.items kid.place) (λ node. node.path ≡ path)

-- an entry at this path is a node of an earlier revision, which was there before if nothing was made
-- there
pub record IsOldKid (past : Before) (changes : List Changed) (path : PathValue)
    (kid : NodeId) : Type 0 where
  pub there : IsThere past.look kid
  pub stays : is_made changes path ≡ false → id_before past path ≡ Some kid

-- an entry of the directory at this place of the block
pub record IsRightKid (past : Before) (b : Block) (changes : List Changed) (place : ℕ)
    (directory : PathValue) (name : Component) (kid : NodeId) : Type 0 where
  pub component : IsComponent name
  pub node : IsNewKid past b place (directory ++ name ∷ []) kid
      ⊎ IsOldKid past changes (directory ++ name ∷ []) kid

-- a file has no entries, and its text keeps the limit
pub record IsRightFile (node : NodeRev) (text : List ℕ) : Type 0 where
  pub no_entries : (name : Component) → kid_of name node ≡ None
  pub short : length text ≤ TEXT_LIMIT

-- what a node has of its own
abbrev pub shown_by : NodeRev → Content × PropertyList
shown_by node = (arc_value node.content, arc_value node.properties)

-- the own last change of a node was made here, or what is at its mark has the same of its own
abbrev pub NamesOwn : Before → NodeRev → Type 0
NamesOwn past node =
    ((node.own.rev ≡ past.count) × (node.own.path ≡ node.path))
    ⊎ (shown (tree_before past node.own.rev node.own.path)
    ≡ Some (shown_by node))

-- where nothing was made, the own last change was made by this revision or is that from before
abbrev pub KeepsOwn : Before → List Changed → NodeRev → Type 0
KeepsOwn past changes node =
    is_made changes node.path ≡ false
    → (node.own.rev ≡ past.count)
    ⊎ (own_revision (tree_before past (past.count - 1) node.path) ≡ Some node.own.rev)

-- a node of the block, by its place
pub record IsRightNode (past : Before) (b : Block) (changes : List Changed) (place : ℕ)
    (node : NodeRev) : Type 0 where
  pub placed : id_in past b node.path ≡ Some (record { rev = past.count; place = place })
  pub kids : (name : Component) (kid : NodeId) → kid_of name node ≡ Some kid
      → IsRightKid past b changes place node.path name kid
  pub height : IsHeight (beside past b) node.kids node.height
  pub file : (text : List ℕ) → arc_value node.content ≡ File text → IsRightFile node text
  pub own : NamesOwn past node
  pub keeps : KeepsOwn past changes node

-- the root is a directory of the block, and no path is too deep
pub record IsRightRoot (node : NodeRev) : Type 0 where
  pub path : node.path ≡ []
  pub directory : is_directory_content (arc_value node.content) ≡ true
  pub depth : node.height ≤ DEPTH_LIMIT

-- a node is of the revision, if there is one
abbrev pub is_new : Before → Option NodeId → Bool
is_new past None = true
is_new past (Some id) = id.rev == past.count

-- so is what is at a path and above it
abbrev pub is_new_down_to : Before → Block → PathValue → Bool
is_new_down_to past b path =
    list_all (λ depth. is_new past (id_in past b (take depth path)))
    (range_with_len 0 (length path + 1))

-- and what is at a changed path has its own mark
pub record IsMarked (past : Before) (b : Block) (path : PathValue) : Type 0 where
  pub last : is_new_down_to past b path ≡ true
  pub own : (id : NodeId) (node : NodeRev) → id_in past b path ≡ Some id
      → beside past b id ≡ Some node → node.own.rev ≡ past.count

-- a block and a list of changes that may be the next revision
pub record IsNextRevision (past : Before) (b : Block) (changes : List Changed) : Type 0 where
  pub nodes : (k : ℕ) (node : NodeRev) → slice_get b.nodes.items k ≡ Some node
      → IsRightNode past b changes k node
  pub here : b.root.rev ≡ past.count
  pub root : IsSomeAnd (slice_get b.nodes.items b.root.place) IsRightRoot
  pub marked : (e : Changed) → Contains changes e → IsMarked past b e.0
