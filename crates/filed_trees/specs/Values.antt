-- Nodes and a block that have what other nodes and another block have.
use Rattle.std.specs.{Prelude.{◌≡◌, ℕ, List, option_map, slice_get, ◌++◌, ◌∷◌, [], Ok, length}, FinMap.entries}
use Rattle.repo_api.specs.{Histories.Changed, States.ChangeMap}
use Rattle.noderevs.specs.{Held.{blocks_of, count, node_at, root_at}, Nodes.{node_in, root_in}, declared.node_rev.Block.Block, declared.node_rev.NodeId.NodeId}
use Rattle.noderevs.specs.declared.nodes.Nodes.{Nodes}
use Rattle.fsfs_nodes.specs.declared.change.FileChange.{FileChange}
use Rattle.fsfs.specs.{Pieces.revision_of, declared.piece.FilePiece.FilePiece, declared.revision.RevisionFile.RevisionFile}
use Rattle.filed_trees.specs.{Pieces.RevisionBytes, Readable.IsReadableFile, Tables.AreTabled, declared.table.Table.Table, Comparing.AreSame}

-- the nodes of all revisions have the same at the same places, and so have those of the blocks
pub record AreSameNext (past other : Nodes) (b c : Block) : Type 0 where
  pub nodes : (id : NodeId) → AreSame (node_at past id) (node_at other id)
  pub roots : (n : ℕ) → root_at past n ≡ root_at other n
  pub many : count past ≡ count other
  pub block : (k : ℕ) → AreSame (slice_get b.nodes.items k) (slice_get c.nodes.items k)
  pub root : b.root ≡ c.root

-- this holds whatever the files of these tables are, and the bytes behind them that say this file
abbrev pub BehindFiles : Nodes → List Table → RevisionFile
    → (RevisionBytes → List ℕ → List Block → List ChangeMap → Type 0) → Type 0
BehindFiles nodes tables file P = (files : RevisionBytes) (bytes : List ℕ)
    (blocks more : List Block) (lists : List ChangeMap)
    → AreTabled files blocks tables lists → blocks_of nodes ≡ blocks ++ more
    → revision_of (length tables) bytes ≡ Ok (file.pieces.items, file.changes.items)
    → P files bytes blocks lists

-- this holds whatever the files of these tables are, with the nodes and changes of one revision more
abbrev pub WithLast : Nodes → List Table → List Changed
    → (RevisionBytes → List Block → List ChangeMap → Type 0) → Type 0
WithLast nodes tables changes P = (files : RevisionBytes) (blocks : List Block) (block : Block)
    (lists : List ChangeMap) (list : ChangeMap) → AreTabled files blocks tables lists
    → blocks_of nodes ≡ blocks ++ block ∷ [] → entries list ≡ changes
    → P files (blocks ++ block ∷ []) (lists ++ list ∷ [])

-- two repositories have the same nodes at the same places, the same roots and the same changes
pub record AreSameRevisions (blocks others : List Block) (lists more : List ChangeMap) : Type 0 where
  pub nodes : (id : NodeId) → AreSame (node_in blocks id) (node_in others id)
  pub roots : (n : ℕ) → root_in blocks n ≡ root_in others n
  pub changes : (n : ℕ) → option_map entries (slice_get lists n) ≡ option_map entries (slice_get more n)

-- the last of these files says the last of these revisions, and can be read after the others, of which
-- these are the tables
pub record IsFiledNext (files : RevisionBytes) (tables : List Table) (file : List ℕ)
    (blocks : List Block) (lists : List ChangeMap) : Type 0 where
  pub pieces : List FilePiece
  pub said : List FileChange
  pub says : revision_of (length tables) file ≡ Ok (pieces, said)
  pub readable : IsReadableFile files tables pieces said
  pub table : Table
  pub tabled : AreTabled files blocks (tables ++ table ∷ []) lists
