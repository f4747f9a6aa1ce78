-- Which node revision of the files each node of a repository is.
use Rattle.std.specs.{Prelude.{◌≡◌, ℕ, List, Option, Some, None, option_and_then, option_map, slice_get, length, map, reverse, IsSomeAnd}, Arc.arc_value}
use Rattle.std.specs.FinMap.{entries}
use Rattle.svnpath.specs.Paths.{Component}
use Rattle.repo_api.specs.States.{ChangeMap}
use Rattle.noderevs.specs.{Nodes.{kid_of, mark_of, node_in, root_in}, declared.node_rev.Block.Block, declared.node_rev.NodeId.NodeId}
use Rattle.noderevs.specs.declared.node_rev.NodeRev.{NodeRev}
use Rattle.fsfs_text.specs.{declared.id.FileId.FileId, declared.place.Place.Place}
use Rattle.fsfs_nodes.specs.{declared.entries.DirectoryEntry.DirectoryEntry, declared.node.FileNode.FileNode}
use Rattle.fsfs.specs.declared.piece.FilePiece.{FilePiece}
use Rattle.filed_trees.specs.{Pieces.{RevisionBytes, piece_in, content_in, properties_in, entries_in, entry_named, path_in}, Changes.{changes_in, revision_in}}
use Rattle.filed_trees.specs.{Trees.own_in, declared.placed.Placed.Placed, declared.table.Table.Table}
use Rattle.filed_trees.specs.Trees as files_trees

-- the root of the copy that a node revision is of: its own place, where no line says another
abbrev pub copyroot_of : Place → Option Place → Place
copyroot_of own None = own
copyroot_of own (Some place) = place

-- what a table keeps of a node revision
abbrev pub placed_of : FileNode → Placed
placed_of node = record {
  id = node.id;
  count = node.count;
  text = node.text;
  properties = node.properties;
  copyroot = copyroot_of (record { revision = node.id.revision; path = node.path }) node.copyroot;
}

-- where the tables place a node
abbrev pub placed_in : List Table → NodeId → Option Placed
placed_in tables id =
    option_and_then (λ table. slice_get table.placed.items id.place) (slice_get tables id.rev)

-- a node is the node revision of this id, if there are such
abbrev pub IsAt : List Table → Option NodeId → Option FileId → Type 0
IsAt tables None None = Unit {0}
IsAt tables None (Some file) = ⊥
IsAt tables (Some id) None = ⊥
IsAt tables (Some id) (Some file) = option_map (λ placed. placed.id) (placed_in tables id) ≡ Some file

-- the files have a node revision with what the node has, and the tables place the node there
pub record IsFiled (files : RevisionBytes) (tables : List Table) (id : NodeId) (node : NodeRev)
    (placed : Placed) : Type 0 where
  pub piece : FilePiece
  pub there : piece_in files placed.id ≡ Some piece
  pub is : placed ≡ placed_of piece.node
  pub revision : placed.id.revision ≡ id.rev
  pub path : path_in piece.node ≡ Some node.path
  pub content : content_in files piece.node ≡ Some (arc_value node.content)
  pub properties : properties_in files piece.node.properties ≡ Some (arc_value node.properties)
  pub own : own_in files placed.id ≡ Some (mark_of node.own)
  pub entries : List DirectoryEntry
  pub read : entries_in files piece.node ≡ Some entries
  pub kids : (name : Component) → IsAt tables (kid_of name node) (entry_named name entries)

-- a node that is there is placed, and no other
abbrev pub IsPlaced : RevisionBytes → List Table → NodeId → Option NodeRev → Option Placed → Type 0
IsPlaced files tables id None None = Unit {0}
IsPlaced files tables id None (Some placed) = ⊥
IsPlaced files tables id (Some node) None = ⊥
IsPlaced files tables id (Some node) (Some placed) = IsFiled files tables id node placed

-- a table lists the node revisions of a file, by rising offsets
abbrev pub HasRows : List FilePiece → Table → Type 0
HasRows pieces table = table.placed.items ≡ map (λ piece. placed_of piece.node) (reverse pieces)

-- so does the table of each revision
abbrev pub AreRows : RevisionBytes → List Table → Type 0
AreRows files tables = (n : ℕ) (table : Table) → slice_get tables n ≡ Some table
    → IsSomeAnd (revision_in files n) (λ said. HasRows said.0 table)

-- the files say what the blocks of all revisions hold, where the tables say, and these changes; and
-- the tables say nothing else
pub record AreTabled (files : RevisionBytes) (blocks : List Block) (tables : List Table)
    (changes : List ChangeMap) : Type 0 where
  pub all : length files ≡ length blocks
  pub tabled : length tables ≡ length blocks
  pub listed : length changes ≡ length blocks
  pub nodes : (id : NodeId) → IsPlaced files tables id (node_in blocks id) (placed_in tables id)
  pub roots : (n : ℕ) → IsAt tables (root_in blocks n) (files_trees.root_in files n)
  pub changed : (n : ℕ) → changes_in files n ≡ option_map entries (slice_get changes n)
  pub rows : AreRows files tables
