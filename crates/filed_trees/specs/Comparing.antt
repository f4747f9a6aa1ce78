-- Comparing the nodes of a revision with its file.
use Rattle.std.specs.Prelude.{◌≡◌, ◌<◌, ℕ, List, [], ◌∷◌, ◌++◌, Option, Some, None, All, IfSome, IsSome, IsSomeAnd, map, option_copied, option_map, slice_get}
use Rattle.std.specs.{Prelude.{suc, length, take}, Borrow.Bor, Arc.arc_value, BTreeMap.is_at, Cmp.Lexicographic.slice_cmp, Map.lookup, Ordering.nat_cmp}
use Rattle.std.specs.FinMap.{entries}
use Rattle.svnpath.specs.Paths.{Component}
use Rattle.repo_api.specs.{Histories.Changed, declared.entry.Content.Content, declared.entry.Mark.Mark}
use Rattle.repo_api.specs.declared.entry.Content.TheVariants as contents
use Rattle.noderevs.specs.{Heights.IsHeight, Held.{node_at, root_at}, Nodes.{kid_named, kid_of, Kids, Look, mark_of, with_block}, declared.node_rev.Block.Block}
use Rattle.noderevs.specs.{declared.node_rev.NodeId.NodeId, declared.node_rev.NodeRev.NodeRev, declared.nodes.Nodes.Nodes}
use Rattle.fsfs_text.specs.{declared.id.FileId.FileId, declared.representation.Representation.Representation}
use Rattle.fsfs_nodes.specs.{declared.entries.DirectoryEntry.DirectoryEntry, declared.node.FileNode.FileNode}
use Rattle.fsfs.specs.declared.piece.FilePiece.{FilePiece}
use Rattle.filed_trees.specs.Pieces.{RevisionBytes, piece_in, body_at_line, content_in, entries_in, entries_at, entry_named, text_in}
use Rattle.filed_trees.specs.{Changes.{ChangeRows, changes_in}, Trees.first_id, Tables.{placed_in, placed_of, IsAt, IsFiled, IsPlaced}}
use Rattle.filed_trees.specs.{declared.table.Table.Table, declared.blocks.ReadRevision.ReadRevision, declared.blocks.Reading.Reading, declared.body.Body.Body}
use Rattle.filed_trees.specs.{declared.body.Body.TheVariants.{Empty, New, Kept}, declared.places.Earlier.Earlier, declared.places.Places.Places}

-- the name and the id of an entry that was listed
abbrev pub named_kid : Bor Component × NodeId → Component × NodeId
named_kid kid = (kid.0.now, kid.1)

-- the id at a name
abbrev pub id_at : List (Component × FileId) → Component → Option FileId
id_at ids name = lookup (is_at (slice_cmp nat_cmp name)) ids

-- each entry has a name that the ids have
abbrev pub AreNamed : (Component → Option FileId) → Kids → Type 0
AreNamed ids kids =
    (name : Component) (id : NodeId) → kid_named kids name ≡ Some id → IsSome (ids name)

-- where what came with a node revision of this revision's file stands in the files, if its line is of
-- this revision
abbrev pub CameWith : RevisionBytes → ℕ → Option Representation → Option (List ℕ) → Type 0
CameWith files revision line new =
    (l : Representation) (body : List ℕ) → line ≡ Some l → l.revision ≡ revision
    → new ≡ Some body → body_at_line files l ≡ Some body

-- something came with a line that is of this revision, and with no other
abbrev pub IsHere : ℕ → Option Representation → Option (List ℕ) → Type 0
IsHere revision None new = new ≡ None
IsHere revision (Some line) None = line.revision ≡ revision → ⊥
IsHere revision (Some line) (Some body) = line.revision ≡ revision

-- what a line gives: nothing where there is none, bytes, or what the predecessor's line gives
abbrev pub IsBody : RevisionBytes → Option Representation → Option Representation → Body → Type 0
IsBody files line kept Empty = line ≡ None
IsBody files line kept (New bytes) = IsSomeAnd line (λ l. body_at_line files l ≡ Some bytes.now)
IsBody files line kept Kept = line ≡ kept

-- the tables of all revisions, the last as far as it has come
abbrev pub tables_of : Places → List Table
tables_of places = places.tables.now ++ places.so_far.now ∷ []

-- how many revisions have whole tables: the number of the revision that is compared
abbrev pub revision_in : Places → ℕ
revision_in places = length places.tables.now

-- a node of an earlier revision that is the node revision of this id, if there are such
abbrev pub IsEarlier : Places → Option FileId → Option Earlier → Type 0
IsEarlier places None None = Unit {0}
IsEarlier places None (Some earlier) = ⊥
IsEarlier places (Some id) None = ⊥
IsEarlier places (Some id) (Some earlier) =
    (n : NodeId) × ((n.rev < revision_in places) × ((node_at places.nodes.now n ≡ Some earlier.node.now)
    × ((placed_in places.tables.now n ≡ Some earlier.placed.now) × (earlier.placed.now.id ≡ id))))

abbrev pub earlier_text : Option Earlier → Option Representation
earlier_text None = None
earlier_text (Some earlier) = earlier.placed.now.text

abbrev pub earlier_properties : Option Earlier → Option Representation
earlier_properties None = None
earlier_properties (Some earlier) = earlier.placed.now.properties

abbrev pub earlier_own : Option Earlier → Option Mark
earlier_own None = None
earlier_own (Some earlier) = Some (mark_of earlier.node.now.own)

abbrev pub WasFiled : RevisionBytes → Places → Option Earlier → Type 0
WasFiled files places earlier =
    IfSome earlier (λ e. (n : NodeId) × IsFiled files (tables_of places) n e.node.now e.placed.now)

-- this holds in all files where what came with a line stands, if the node before is filed
abbrev pub IfCame : Places → Option Earlier → Option Representation → Option (List ℕ)
    → (RevisionBytes → Type 0) → Type 0
IfCame places earlier line new P = (files : RevisionBytes)
    → CameWith files (revision_in places) line new → WasFiled files places earlier → P files

-- a line gives the text of a file
abbrev pub HasText : RevisionBytes → Option Representation → Content → Type 0
HasText files line content =
    (text : List ℕ) × ((content ≡ contents.File text) × (text_in files line ≡ Some text))

-- the entries of a node are, name by name, these
abbrev pub AreAt : List Table → Kids → List DirectoryEntry → Type 0
AreAt tables kids entries =
    (name : Component) → IsAt tables (kid_named kids name) (entry_named name entries)

-- names with nodes are, one after another, the names of entries with the nodes of their ids
abbrev pub AreNodesOf : List Table → List (Component × NodeId) → List DirectoryEntry → Type 0
AreNodesOf tables [] [] = Unit {0}
AreNodesOf tables [] (entry ∷ entries) = ⊥
AreNodesOf tables (row ∷ rows) [] = ⊥
AreNodesOf tables (row ∷ rows) (entry ∷ entries) =
    ((row.0 ≡ entry.name) × IsAt tables (Some row.1) (Some entry.id))
    × AreNodesOf tables rows entries

-- this holds in all files of each line that gives a body, where the node before is filed
abbrev pub IfLineGives : Places → Option Earlier → Body
    → (RevisionBytes → Option Representation → Type 0) → Type 0
IfLineGives places earlier body P = (files : RevisionBytes) (line : Option Representation)
    → IsBody files line (earlier_text earlier) body → WasFiled files places earlier → P files line

-- a line gives the entries of a node
pub record HasEntries (files : RevisionBytes) (tables : List Table) (line : Option Representation)
    (ids : Kids) : Type 0 where
  pub entries : List DirectoryEntry
  pub read : entries_at files line ≡ Some entries
  pub kids : AreAt tables ids entries

-- a node revision gives the content and the entries of a node
pub record HasContent (files : RevisionBytes) (tables : List Table) (said : FileNode)
    (content_is : Content) (ids : Kids) : Type 0 where
  pub content : content_in files said ≡ Some content_is
  pub entries : List DirectoryEntry
  pub read : entries_in files said ≡ Some entries
  pub kids : AreAt tables ids entries

-- a piece of the file of this revision, the last of the files
pub record IsOfLast (files : RevisionBytes) (revision : ℕ) (piece : FilePiece) : Type 0 where
  pub there : piece_in files piece.node.id ≡ Some piece
  pub revision_is : piece.node.id.revision ≡ revision
  pub text : CameWith files revision piece.node.text piece.text
  pub properties : CameWith files revision piece.node.properties piece.properties
  pub text_here : IsHere revision piece.node.text piece.text
  pub properties_here : IsHere revision piece.node.properties piece.properties

-- files whose last is that of the revision that is compared: it says these changes, and the nodes of
-- the revisions before it are placed in them
pub record AreFor (files : RevisionBytes) (places : Places) (rows : ChangeRows) : Type 0 where
  pub long : length files ≡ suc (revision_in places)
  pub changes : changes_in files (revision_in places) ≡ Some rows
  pub earlier : (id : NodeId) → id.rev < revision_in places
      → IsPlaced files (tables_of places) id (node_at places.nodes.now id) (placed_in places.tables.now id)

-- node revisions of the last file
abbrev pub AreOfLast : RevisionBytes → Places → List (Bor FilePiece) → Type 0
AreOfLast files places rows = All (λ row. IsOfLast files (revision_in places) row.now) rows

-- this holds whatever the files are, the last of which is read
abbrev pub ForFiles : Reading → (RevisionBytes → Type 0) → Type 0
ForFiles reading P =
    (files : RevisionBytes) → AreFor files reading.places reading.changes.now → P files

-- a node of the last revision is what a node revision says
abbrev pub IsReadFrom : RevisionBytes → Places → FilePiece → NodeRev → Type 0
IsReadFrom files places piece node = (id : NodeId) → id.rev ≡ revision_in places
    → IsFiled files (tables_of places) id node (placed_of piece.node)

-- the nodes of the last revision are what node revisions say, each at its place
abbrev pub AreReadFrom : RevisionBytes → Places → List (Bor FilePiece) → List NodeRev → Type 0
AreReadFrom files places rows nodes = (id : NodeId) → id.rev ≡ revision_in places
    → IsPlaced files (tables_of places) id (slice_get nodes id.place)
    (slice_get (map (λ row. placed_of row.now.node) rows) id.place)

-- the root is the first node revision
abbrev pub IsRoot : Places → Option (Bor FilePiece) → NodeId → Type 0
IsRoot places first root =
    IsAt (tables_of places) (Some root) (option_map (λ piece. piece.node.id) (option_copied first))

-- the same files, whatever the last table is, and the node revisions that the last of them says
pub record AreForAll (files : RevisionBytes) (nodes : Nodes) (tables : List Table) (rows : ChangeRows)
    (pieces : List FilePiece) : Type 0 where
  pub long : length files ≡ suc (length tables)
  pub changes : changes_in files (length tables) ≡ Some rows
  pub earlier : (table : Table) (id : NodeId) → id.rev < length tables
      → IsPlaced files (tables ++ table ∷ []) id (node_at nodes id) (placed_in tables id)
  pub last : (k : ℕ) (piece : FilePiece) → slice_get pieces k ≡ Some piece
      → IsOfLast files (length tables) piece

-- the nodes of a block are those that the last file says, as its table places them
pub record AreNew (files : RevisionBytes) (tables : List Table) (block : Block) (table : Table)
    (pieces : List FilePiece) : Type 0 where
  pub nodes : (id : NodeId) → id.rev ≡ length tables
      → IsPlaced files (tables ++ table ∷ []) id (slice_get block.nodes.items id.place)
      (slice_get table.placed.items id.place)
  pub root : IsAt (tables ++ table ∷ []) (Some block.root) (first_id pieces)

-- each of the nodes of a revision has its height over those in front of it
abbrev pub HaveHeights : Look → ℕ → List NodeRev → Type 0
HaveHeights look rev nodes = (k : ℕ) (node : NodeRev) → slice_get nodes k ≡ Some node
    → IsHeight (with_block look rev (take k nodes)) node.kids node.height

-- nodes with the same marks, content, properties and entries
pub record IsSameNode (node other : NodeRev) : Type 0 where
  pub path : node.path ≡ other.path
  pub own : mark_of node.own ≡ mark_of other.own
  pub content : arc_value node.content ≡ arc_value other.content
  pub properties : arc_value node.properties ≡ arc_value other.properties
  pub kids : (name : Component) → kid_of name node ≡ kid_of name other

abbrev pub AreSame : Option NodeRev → Option NodeRev → Type 0
AreSame None None = Unit {0}
AreSame None (Some other) = ⊥
AreSame (Some node) None = ⊥
AreSame (Some node) (Some other) = IsSameNode node other

-- a revision of nodes, whose changes are these, is what was read
pub record IsLast (nodes : Nodes) (revision : ℕ) (changes : List Changed) (read : ReadRevision) : Type 0 where
  pub nodes_are : (id : NodeId) → id.rev ≡ revision
      → AreSame (slice_get read.block.nodes.items id.place) (node_at nodes id)
  pub root_is : root_at nodes revision ≡ Some read.block.root
  pub changes_are : entries read.changes ≡ changes
