-- What the file of a revision has, by its nodes, its changes and the tables of the revisions before it.
use Rattle.std.specs.Prelude.{◌≡◌, ◌==◌, nat_lt, ℕ, ◌+◌, ◌-◌, ◌||◌, Bool, List, [], ◌∷◌, ◌++◌, length, take, Option, Some, None, option_map, option_and_then}
use Rattle.std.specs.{Prelude.{slice_get, if◌then◌else◌}, Arc.arc_value, FinMap.entries}
use Rattle.svnpath.specs.{Listings.listing, Paths.{Component, PathValue}, Texts.path_text}
use Rattle.repo_api.specs.{declared.change.Action.Action, declared.change.Action.TheVariants.{Add, Delete, Replace, Modify}, declared.change.Change.Change}
use Rattle.repo_api.specs.{declared.change.Source.Source, declared.entry.Content.Content}
use Rattle.repo_api.specs.declared.entry.Content.TheVariants as contents
use Rattle.revision_data.specs.Found.{found}
use Rattle.noderevs.specs.{Held.{blocks_of, node_at, root_at}, Views.find_id, declared.node_rev.Block.Block, declared.node_rev.NodeId.NodeId}
use Rattle.noderevs.specs.declared.node_rev.NodeRev.{NodeRev}
use Rattle.fsfs_nodes.specs.{declared.current.NextIds.NextIds, declared.entries.DirectoryEntry.DirectoryEntry, declared.node.FileNode.FileNode}
use Rattle.fsfs_nodes.specs.declared.change.FileChange.{FileChange}
use Rattle.fsfs_text.specs.{declared.id.FileId.FileId, declared.id.IdPart.IdPart}
use Rattle.fsfs.specs.Files.{Piece, file_bytes, pieces_bytes}
use Rattle.filed_trees.specs.{Tables.placed_in, declared.placed.Placed.Placed}
use Rattle.filed_writing.specs.{Origins.{deleted_at, predecessor_of}, declared.counter.Counter.Counter, declared.revision.Revision.Revision, Pieces.Before}
use Rattle.filed_writing.specs.Pieces.{Brings, Comes, Copy, Writes, after_copy, after_node, all_some, any_new, begins, brings, copied, copy_before}
use Rattle.filed_writing.specs.Pieces.{copyroot_line, count_of, counted, counter_in, dump_in, entry_with, file_change, ids_after, ids_of, is_file, kind_of}
use Rattle.filed_writing.specs.Pieces.{later_copy, node_of, piece_by, properties_of, rows_of, source_place, text_of_before, with_both}

-- ---- what is known of a node

-- a node of this revision
abbrev pub node_here : Revision → ℕ → Option NodeRev
node_here r place = node_at r.nodes.now (record { rev = r.number; place = place })

abbrev pub nodes_in : Option Block → List NodeRev
nodes_in None = []
nodes_in (Some block) = block.nodes.items

-- all nodes of this revision, in their order
abbrev pub nodes_of : Revision → List NodeRev
nodes_of r = nodes_in (slice_get (blocks_of r.nodes.now) r.number)

-- the id in the files of a node: of this revision by its place, of an earlier one by the tables
abbrev pub file_id : Revision → List FileId → NodeId → Option FileId
file_id r written id =
    if id.rev == r.number then slice_get written id.place
    else option_map (λ placed. placed.id) (placed_in r.tables.now id)

-- ---- a representation: the text of a file, the entries of a directory, or properties

abbrev pub entry_of : Revision → List FileId → Component × NodeId → Option DirectoryEntry
entry_of r written kid = entry_with kid.0 (node_at r.nodes.now kid.1) (file_id r written kid.1)

-- the entries of a directory as a file has them, by the bytes of their names
abbrev pub entries_of : Revision → List FileId → NodeRev → Option (List DirectoryEntry)
entries_of r written node = all_some (entry_of r written) (entries node.kids)

abbrev pub entries_dump : Revision → List FileId → NodeRev → Option (List ℕ)
entries_dump r written node = option_map (dump_in r.number) (entries_of r written node)

-- ---- where a node revision comes from

-- what it was made from, and where that stands in the files
abbrev pub made_from : Revision → NodeRev → Option (NodeRev × Placed)
made_from r node =
    option_and_then (λ id. with_both (node_at r.nodes.now id) (placed_in r.tables.now id))
    (predecessor_of r.nodes.now r.changes.now r.number node.path)

-- by the ids that come next
abbrev pub comes : Revision → NodeRev → Counter → Comes
comes r node next = record {
  node = node_of (made_from r node) next;
  predecessor = made_from r node;
  copy = option_map (λ source. (counted next.revision next.copy, source))
      (copied (found r.changes.now node.path));
}

-- the ids that come next behind it
abbrev pub next_after : Revision → NodeRev → Counter → Counter
next_after r node next = record {
  revision = next.revision;
  node = after_node (made_from r node) next.node;
  copy = after_copy (copied (found r.changes.now node.path)) next.copy;
}

-- in the order of the nodes
abbrev pub all_come : Revision → List NodeRev → Counter → List Comes
all_come r [] next = []
all_come r (node ∷ nodes) next = comes r node next ∷ all_come r nodes (next_after r node next)

-- the ids that come next behind them
abbrev pub next_after_all : Revision → List NodeRev → Counter → Counter
next_after_all r [] next = next
next_after_all r (node ∷ nodes) next = next_after_all r nodes (next_after r node next)

-- ---- which copy a node revision is of

-- where it begins none: that of its predecessor, or that of its directory where there is no predecessor or the
-- directory's begins in a later revision; the root of revision 0 has neither
abbrev pub inherits : Revision → NodeRev → Option (NodeRev × Placed) → Option Copy → Copy
inherits r node None None = begins r.number (counted None 0) node
inherits r node None (Some above) = above
inherits r node (Some before) None = copy_before before.1
inherits r node (Some before) (Some above) = later_copy (copy_before before.1) above

-- a node that was copied itself begins one
abbrev pub copy_by : Revision → NodeRev → Option (NodeRev × Placed) → Option (IdPart × Source)
    → Option Copy → Copy
copy_by r node predecessor None above = inherits r node predecessor above
copy_by r node predecessor (Some copy) above = begins r.number copy.0 node

-- by where it comes from, and by that of its directory
abbrev pub copy_of : Revision → NodeRev → Comes → Option Copy → Copy
copy_of r node come above = copy_by r node come.predecessor come.copy above

-- the place of its directory; the root has none
abbrev pub place_above : Revision → PathValue → Option ℕ
place_above r [] = None
place_above r (name ∷ path) =
    option_map (λ id. id.place)
    (find_id (node_at r.nodes.now) (take (length path) (name ∷ path)) (root_at r.nodes.now r.number))

-- the copy of the node of a place, where the copies are known from the first of these places on
abbrev pub known_from : ℕ → List Copy → ℕ → Option Copy
known_from first copies place =
    if nat_lt place first then None else slice_get copies (place - first)

-- the copy of the node of a place, by those of the nodes behind it: its directory is one of these
abbrev pub copy_at : Revision → ℕ → NodeRev → Comes → List Copy → Copy
copy_at r place node come behind =
    copy_of r node come (option_and_then (known_from (place + 1) behind) (place_above r node.path))

-- the copies of the nodes from this place on
abbrev pub copies_of : Revision → ℕ → List NodeRev → List Comes → List Copy
copies_of r place [] comes = []
copies_of r place (node ∷ nodes) [] = []
copies_of r place (node ∷ nodes) (come ∷ comes) =
    copy_at r place node come (copies_of r (place + 1) nodes comes)
    ∷ copies_of r (place + 1) nodes comes

-- ---- a node revision

-- its lines, but for its offset and for what it contains
abbrev pub lines_of : Revision → NodeRev → Comes → Copy → FileNode
lines_of r node come copy = record {
  id = record { node = come.node; copy = copy.id; revision = r.number; offset = 0 };
  kind = kind_of (arc_value node.content);
  predecessor = option_map (λ before. before.1.id) come.predecessor;
  count = count_of come.predecessor;
  text = None;
  properties = None;
  path = path_text node.path;
  copyfrom = option_map (λ p. source_place p.1) come.copy;
  copyroot = copyroot_line (record { revision = r.number; path = path_text node.path }) copy.place;
}

abbrev pub has_new : Revision → NodeRev → Bool
has_new r node = any_new r.number (entries node.kids)

-- the entries of the predecessor, where that is a directory and no entry is new, with their line
abbrev pub entries_before : Revision → List FileId → NodeRev → Option (NodeRev × Placed)
    → Option (Option Before)
entries_before r written node None = Some None
entries_before r written node (Some before) =
    if has_new r node || is_file (arc_value before.0.content) then Some None
    else option_map (λ bytes. Some (bytes, before.1.text)) (entries_dump r written before.0)

-- what comes for the text of a file, or for the entries of a directory
abbrev pub content_by : Revision → List FileId → NodeRev → Option (NodeRev × Placed) → Content
    → Option Brings
content_by r written node predecessor contents.Directory =
    option_and_then (λ bytes. option_map (brings bytes) (entries_before r written node predecessor))
    (entries_dump r written node)
content_by r written node predecessor (contents.File text) =
    Some (brings text (text_of_before predecessor))

abbrev pub content_of : Revision → List FileId → NodeRev → Comes → Option Brings
content_of r written node come = content_by r written node come.predecessor (arc_value node.content)

-- a node revision, with what comes with it, behind so many bytes
abbrev pub piece_of : Revision → ℕ → NodeRev → Comes → Copy → Brings → Piece
piece_of r offset node come copy content =
    piece_by offset (lines_of r node come copy) content (properties_of node come.predecessor)

-- a node revision is written behind these bytes, with what comes for its text or its entries, and has these lines
pub record WritesNode (r : Revision) (written : List FileId) (out : List ℕ) (node : NodeRev) (come : Comes)
    (copy : Copy) (lines : FileNode) (new : List ℕ) : Type 0 where
  pub content : Brings
  pub content_is : content_of r written node come ≡ Some content
  pub writes : Writes out (piece_of r (length out) node come copy content) lines new

-- one more, behind those in front
abbrev pub with_piece : Revision → List Piece → NodeRev → Comes → Copy → Brings → List Piece
with_piece r front node come copy content =
    front ++ piece_of r (length (pieces_bytes front)) node come copy content ∷ []

-- the node revisions of these nodes one behind another, behind those in front
abbrev pub pieces_of : Revision → List Piece → List NodeRev → List Comes → List Copy
    → Option (List Piece)
pieces_of r front [] comes copies = Some front
pieces_of r front (node ∷ nodes) [] copies = Some front
pieces_of r front (node ∷ nodes) (come ∷ comes) [] = Some front
pieces_of r front (node ∷ nodes) (come ∷ comes) (copy ∷ copies) = option_and_then
    (λ content. pieces_of r (with_piece r front node come copy content) nodes comes copies)
    (content_of r (ids_of front) node come)

-- the bytes and the ids of this revision's node revisions, which come from there and are of these copies, and what a
-- table keeps of them
pub record AreWritten (r : Revision) (comes : List Comes) (copies : List Copy) (bytes : List ℕ)
    (ids : List FileId) (placed : List Placed) : Type 0 where
  pub pieces : List Piece
  pub pieces_are : pieces_of r [] (nodes_of r) comes copies ≡ Some pieces
  pub bytes_are : bytes ≡ pieces_bytes pieces
  pub ids_are : ids ≡ ids_of pieces
  pub placed_are : placed ≡ rows_of pieces

-- ---- the changes, by the bytes of their paths

-- the node of a changed path, or the one that its first deletion took away
abbrev pub changed_node : Revision → PathValue → Action → Option NodeId
changed_node r path Add = find_id (node_at r.nodes.now) path (root_at r.nodes.now r.number)
changed_node r path Replace = find_id (node_at r.nodes.now) path (root_at r.nodes.now r.number)
changed_node r path Modify = find_id (node_at r.nodes.now) path (root_at r.nodes.now r.number)
changed_node r path Delete = deleted_at r.nodes.now r.changes.now r.number path

abbrev pub changed_id : Revision → List FileId → PathValue → Action → Option FileId
changed_id r written path action = option_and_then (file_id r written) (changed_node r path action)

abbrev pub change_of : Revision → List FileId → PathValue × Change → Option FileChange
change_of r written p =
    option_map (λ id. file_change id p) (changed_id r written p.0 p.1.action)

-- each as a file has it, by the bytes of the paths' texts
abbrev pub ListsChanges : Revision → List FileId → List FileChange → Type 0
ListsChanges r written changes = all_some (change_of r written) (listing r.changes.now) ≡ Some changes

-- ---- the file

-- where each node comes from
abbrev pub comes_here : Revision → Option NextIds → List Comes
comes_here r ids = all_come r (nodes_of r) (counter_in ids r.number)

-- the copy that each node is of
abbrev pub copies_here : Revision → Option NextIds → List Copy
copies_here r ids = copies_of r 0 (nodes_of r) (comes_here r ids)

-- the node revisions, one behind another
abbrev pub pieces_here : Revision → Option NextIds → Option (List Piece)
pieces_here r ids = pieces_of r [] (nodes_of r) (comes_here r ids) (copies_here r ids)

-- what a table keeps of them
abbrev pub rows_here : Revision → Option NextIds → Option (List Placed)
rows_here r ids = option_map rows_of (pieces_here r ids)

-- the ids that its nodes took are taken
abbrev pub ids_here : Revision → Option NextIds → Option NextIds
ids_here r ids = ids_after ids (next_after_all r (nodes_of r) (counter_in ids r.number))

-- The file has the node revisions, the changes, and where the root, the last of the node revisions, and the changes
-- begin. In format 2 these ids come next before it, and those after it; in format 3 there are none.
pub record IsLaidOut (r : Revision) (ids : Option NextIds) (file : List ℕ) (after : Option NextIds) : Type 0 where
  pub pieces : List Piece
  pub pieces_are : pieces_here r ids ≡ Some pieces
  pub root : FileId
  pub root_is : slice_get (ids_of pieces) (length pieces - 1) ≡ Some root
  pub changes : List FileChange
  pub changes_are : ListsChanges r (ids_of pieces) changes
  pub file_is : file ≡ file_bytes pieces changes root.offset
  pub after_is : after ≡ ids_here r ids
