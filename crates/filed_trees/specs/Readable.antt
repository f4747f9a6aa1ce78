-- Which file of a revision can be read, behind those of the revisions before.
use Rattle.std.specs.Prelude.{◌≡◌, ◌⊎◌, ℕ, true, false, List, Option, Some, None, Result, Ok, Err, All, IfSome, IsSome, IsSomeAnd, option_and_then}
use Rattle.std.specs.{Prelude.{option_copied, option_map, slice_get}, Arc.arc_value, Borrow.Bor, Result.result_ok}
use Rattle.svnpath.specs.Paths.{Component}
use Rattle.repo_api.specs.Trees.{is_directory_content}
use Rattle.fsfs_text.specs.{declared.fault.FileFault.FileFault, declared.id.FileId.FileId, declared.representation.Representation.Representation}
use Rattle.fsfs_nodes.specs.{Entries.entries_of, declared.entries.DirectoryEntry.DirectoryEntry, declared.entries.EntryKind.EntryKind}
use Rattle.fsfs_nodes.specs.{declared.entries.EntryKind.TheVariants.{File, Directory}, declared.node.FileNode.FileNode, declared.change.FileChange.FileChange}
use Rattle.fsfs_nodes.specs.Properties.{properties_of}
use Rattle.fsfs.specs.Pieces as reading
use Rattle.fsfs.specs.declared.piece.FilePiece.{FilePiece}
use Rattle.repostore.specs.Reading.{IfFileFaulty}
use Rattle.filed_trees.specs.{Pieces.{RevisionBytes, piece_in, entry_named, path_in}, Changes.changes_by, Trees.first_id}
use Rattle.filed_trees.specs.{Comparing.{earlier_text, earlier_properties, tables_of}, declared.body.Body.Body}
use Rattle.filed_trees.specs.{declared.body.Body.TheVariants.{Empty, New, Kept}, declared.places.Earlier.Earlier, declared.places.Places.Places}
use Rattle.filed_trees.specs.{declared.placed.Placed.Placed, declared.table.Table.Table}

-- something is answered only where this holds, and a fault of the file only where it does not
abbrev pub Judges : {T : Type 0} → Result T FileFault → Type 0 → Type 0
Judges (Ok x) P = P
Judges (Err fault) P = IfFileFaulty fault (P → ⊥)

-- what is read is what is said; a fault of the file is answered only where nothing is said
abbrev pub Reads : {T : Type 0} → Result T FileFault → Option T → Type 0
Reads (Ok x) said = said ≡ Some x
Reads (Err fault) said = IfFileFaulty fault (IsSome said → ⊥)

-- something that fits is read where this holds, and a fault of the file is answered only elsewhere
abbrev pub ReadsWhere : {T : Type 0} → Result T FileFault → Type 0 → (T → Type 0) → Type 0
ReadsWhere (Ok x) P Fits = P × Fits x
ReadsWhere (Err fault) P Fits = IfFileFaulty fault (P → ⊥)

-- something is found where this holds, and nowhere else
abbrev pub Finds : {T : Type 0} → Option T → Type 0 → Type 0
Finds (Some x) P = P
Finds None P = P → ⊥

-- something that fits is found, if there is any
abbrev pub FindsOne : {T : Type 0} → Option T → (T → Type 0) → Type 0
FindsOne {T} (Some x) Fits = Fits x
FindsOne {T} None Fits = ((x : T) × Fits x) → ⊥

abbrev pub HasPlaced : List Placed → FileId → Type 0
HasPlaced placed id = (k : ℕ) × IsSomeAnd (slice_get placed k) (λ p. p.id ≡ id)

-- the table of an id's revision places a node revision of this id
abbrev pub IsTabled : List Table → FileId → Type 0
IsTabled tables id =
    IsSomeAnd (slice_get tables id.revision) (λ table. HasPlaced table.placed.items id)

-- one of these node revisions has the id
abbrev pub IsOneOf : List FilePiece → FileId → Type 0
IsOneOf pieces id = (k : ℕ) × IsSomeAnd (slice_get pieces k) (λ piece. piece.node.id ≡ id)

-- a line with which nothing came is that of the node revision before
abbrev pub IsKept : Option Representation → Option (List ℕ) → Option Representation → Type 0
IsKept None new before = Unit {0}
IsKept (Some line) (Some body) before = Unit {0}
IsKept (Some line) None before = before ≡ Some line

-- the node revision before
abbrev pub before_in : RevisionBytes → FileNode → Option FileNode
before_in files node =
    option_map (λ piece. piece.node) (option_and_then (piece_in files) node.predecessor)

abbrev pub text_before : RevisionBytes → FileNode → Option Representation
text_before files node = option_and_then (λ before. before.text) (before_in files node)

abbrev pub properties_before : RevisionBytes → FileNode → Option Representation
properties_before files node = option_and_then (λ before. before.properties) (before_in files node)

abbrev pub kind_before : RevisionBytes → FileNode → Option EntryKind
kind_before files node = option_map (λ before. before.kind) (before_in files node)

-- no two entries have one name
abbrev pub AreOnce : List DirectoryEntry → Type 0
AreOnce entries = (j k : ℕ) (a b : DirectoryEntry) → slice_get entries j ≡ Some a
    → slice_get entries k ≡ Some b → a.name ≡ b.name → j ≡ k

-- and each leads to what is known
pub record AreEntries (is_known : FileId → Type 0) (entries : List DirectoryEntry) : Type 0 where
  pub once : AreOnce entries
  pub known : (name : Component) → IfSome (entry_named name entries) is_known

-- a node revision of the last file: what it names is tabled, came with it or is kept from the node
-- revision before, which is of an earlier revision
pub record IsReadable (files : RevisionBytes) (tables : List Table) (is_known : FileId → Type 0)
    (piece : FilePiece) : Type 0 where
  pub path : IsSome (path_in piece.node)
  pub before : IfSome piece.node.predecessor (IsTabled tables)
  pub text : IsKept piece.node.text piece.text (text_before files piece.node)
  pub kind : IsSome piece.node.text → piece.text ≡ None
      → kind_before files piece.node ≡ Some piece.node.kind
  pub entries : IsSomeAnd (result_ok (reading.entries_in piece)) (AreEntries is_known)
  pub properties : IsKept piece.node.properties piece.properties (properties_before files piece.node)
  pub list : IfSome piece.properties (λ body. IsSome (result_ok (properties_of body)))

-- the node revisions of the last file, where the tables are those of the files before
pub record AreReadable (files : RevisionBytes) (tables : List Table)
    (pieces : List FilePiece) : Type 0 where
  pub root : IsSome (first_id pieces)
  pub nodes : All (IsReadable files tables (λ id. IsTabled tables id ⊎ IsOneOf pieces id)) pieces

-- and its changes
pub record IsReadableFile (files : RevisionBytes) (tables : List Table) (pieces : List FilePiece)
    (changes : List FileChange) : Type 0 where
  pub nodes : AreReadable files tables pieces
  pub changes_are : IsSome (changes_by changes)

-- ---- as far as it was read

-- what a line gives is what came with it, or is kept where nothing did
abbrev pub IsSaid : Option Representation → Option (List ℕ) → Body → Type 0
IsSaid line new Empty = line ≡ None
IsSaid line new (New bytes) = new ≡ Some bytes.now
IsSaid line new Kept = IsSome line × (new ≡ None)

-- there is a first node revision, and it is tabled
abbrev pub HasRoot : Places → Option (Bor FilePiece) → Type 0
HasRoot places first =
    IsSomeAnd (option_copied first) (λ piece. IsTabled (tables_of places) piece.node.id)

-- a node revision can be read, where its entries are as far as the last table has come
abbrev pub IsReadableSoFar : RevisionBytes → Places → FilePiece → Type 0
IsReadableSoFar files places piece =
    IsReadable files places.tables.now (IsTabled (tables_of places)) piece

-- the node before is a file, or a directory
abbrev pub IsOfKind : EntryKind → Option Earlier → Type 0
IsOfKind File earlier = IsSomeAnd earlier (λ e. is_directory_content (arc_value e.node.now.content) ≡ false)
IsOfKind Directory earlier = IsSomeAnd earlier (λ e. is_directory_content (arc_value e.node.now.content) ≡ true)

abbrev pub IsRightText : Option Earlier → Body → Type 0
IsRightText earlier Empty = Unit {0}
IsRightText earlier (New bytes) = Unit {0}
IsRightText earlier Kept = IsOfKind File earlier

abbrev pub AreRightKids : (FileId → Type 0) → Option Earlier → Body → Type 0
AreRightKids is_known earlier Empty = Unit {0}
AreRightKids is_known earlier (New bytes) = IsSomeAnd (result_ok (entries_of bytes.now)) (AreEntries is_known)
AreRightKids is_known earlier Kept = IsOfKind Directory earlier

-- the content of a node revision, where the node before was found
pub record IsRightContent (is_known : FileId → Type 0) (earlier : Option Earlier)
    (piece : FilePiece) : Type 0 where
  pub text : IsKept piece.node.text piece.text (earlier_text earlier)
  pub kind : IsSome piece.node.text → piece.text ≡ None → IsOfKind piece.node.kind earlier
  pub entries : IsSomeAnd (result_ok (reading.entries_in piece)) (AreEntries is_known)

pub record AreRightProperties (earlier : Option Earlier) (piece : FilePiece) : Type 0 where
  pub kept : IsKept piece.node.properties piece.properties (earlier_properties earlier)
  pub list : IfSome piece.properties (λ body. IsSome (result_ok (properties_of body)))
