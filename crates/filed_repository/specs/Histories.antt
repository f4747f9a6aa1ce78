-- What the files of revisions say, one revision after another, as opening a folder reads them.
use Rattle.std.specs.{Prelude.{◌≡◌, ◌≤◌, ◌<◌, ◌++◌, ◌∷◌, [], ℕ, List, Some, Ok, length, slice_get, take}, FinMap.entries}
use Rattle.repo_api.specs.{States.ChangeMap, declared.limits.TheConstants.REVISION_LIMIT}
use Rattle.noderevs.specs.{Held.blocks_of, OpeningBlocks.IsOpeningBlock, declared.node_rev.Block.Block, declared.nodes.Nodes.Nodes}
use Rattle.block_rules.specs.Rules.{IsNextRevision, past_of}
use Rattle.fsfs.specs.{Judging.judged_revision, Pieces.revision_of, declared.piece.FilePiece.FilePiece}
use Rattle.fsfs_nodes.specs.declared.change.FileChange.{FileChange}
use Rattle.filed_trees.specs.{Pieces.RevisionBytes, Readable.IsReadableFile, Tables.AreTabled, declared.table.Table.Table}
use Rattle.shared_revisions.specs.declared.held.Held.{Held}

-- the files of revisions, and the nodes, the table and the changes of each
pub record History : Type 0 where
  pub files : RevisionBytes
  pub blocks : List Block
  pub tables : List Table
  pub changes : List ChangeMap

-- those of the first revisions
abbrev pub first : ℕ → History → History
first n h = record {
  files = take n h.files;
  blocks = take n h.blocks;
  tables = take n h.tables;
  changes = take n h.changes;
}

-- with those of one more
abbrev pub with_next : History → List ℕ → Block → Table → ChangeMap → History
with_next h file block table change = record {
  files = h.files ++ file ∷ [];
  blocks = h.blocks ++ block ∷ [];
  tables = h.tables ++ table ∷ [];
  changes = h.changes ++ change ∷ [];
}

-- the files say what the nodes, the tables and the changes are
abbrev pub AreSaid : History → Type 0
AreSaid h = AreTabled h.files h.blocks h.tables h.changes

-- a revision comes after others: what its file says is judged to be right, can be read after theirs, and
-- keeps the rules
pub record ComesNext (past : History) (file : List ℕ) (block : Block) (change : ChangeMap) : Type 0 where
  pub pieces : List FilePiece
  pub said : List FileChange
  pub says : revision_of (length past.files) file ≡ Ok (pieces, said)
  pub judged : judged_revision (length past.files) pieces said ≡ Ok tt
  pub readable : IsReadableFile (past.files ++ file ∷ []) past.tables pieces said
  pub nodes : Nodes
  pub before : blocks_of nodes ≡ past.blocks
  pub rules : IsNextRevision (past_of nodes) block (entries change)

-- revision 0 is that of a new repository, and its file can be read
pub record ComesFirst (file : List ℕ) (block : Block) (change : ChangeMap) : Type 0 where
  pub pieces : List FilePiece
  pub said : List FileChange
  pub says : revision_of 0 file ≡ Ok (pieces, said)
  pub readable : IsReadableFile (file ∷ []) [] pieces said
  pub opening : IsOpeningBlock block
  pub unchanged : entries change ≡ []

-- the files say the revisions, and the first so many of them the first so many; each revision after
-- revision 0 comes after those before it
pub record IsHistory (h : History) : Type 0 where
  pub all : AreSaid h
  pub said : (n : ℕ) → n ≤ length h.files → AreSaid (first n h)
  pub begins : (file : List ℕ) (block : Block) (change : ChangeMap) → slice_get h.files 0 ≡ Some file
      → slice_get h.blocks 0 ≡ Some block → slice_get h.changes 0 ≡ Some change
      → ComesFirst file block change
  pub next : (n : ℕ) (file : List ℕ) (block : Block) (change : ChangeMap) → 0 < n
      → slice_get h.files n ≡ Some file → slice_get h.blocks n ≡ Some block
      → slice_get h.changes n ≡ Some change → ComesNext (first n h) file block change
  pub room : length h.files ≤ REVISION_LIMIT

-- what is held, with the tables and the files of its revisions
abbrev pub held_history : Held → List Table → RevisionBytes → History
held_history h tables files = record {
  files = files;
  blocks = blocks_of h.nodes;
  tables = tables;
  changes = h.changes;
}

-- the files of revisions are those of a history
abbrev pub HasHistory : RevisionBytes → Type 0
HasHistory files = (h : History) × ((h.files ≡ files) × IsHistory h)
