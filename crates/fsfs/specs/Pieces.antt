-- Reading a revision file as a whole.
use Rattle.std.specs.Prelude.{ℕ, zero, suc, ◌==◌, ◌&&◌, ◌||◌, nat_lt, Bool, true, false, List, [], ◌∷◌, length, drop, replicate, slice_index_or, slice_set}
use Rattle.std.specs.Prelude.{Option, Some, None, Result, Ok, Err, if◌then◌else◌}
use Rattle.fsfs_text.specs.{declared.fault.FileFault.FileFault, declared.fault.FileFault.TheVariants.{BadLine, Dangling}, Reading.◌>>=◌}
use Rattle.fsfs_text.specs.{declared.id.FileId.FileId, declared.representation.Representation.Representation}
use Rattle.fsfs_nodes.specs.{declared.entries.EntryKind.EntryKind, declared.entries.EntryKind.TheVariants.{File, Directory}}
use Rattle.fsfs_nodes.specs.{declared.entries.DirectoryEntry.DirectoryEntry, Nodes.node_at, Entries.entries_of, declared.change.FileChange.FileChange}
use Rattle.fsfs_nodes.specs.{Bodies.body_at, Changes.changes_of, Trailers.trailer_of}
use Rattle.fsfs.specs.declared.piece.FilePiece.{FilePiece}

abbrev pub some_of : Result (List ℕ) FileFault → Result (Option (List ℕ)) FileFault
some_of (Ok body) = Ok (Some body)
some_of (Err f) = Err f

-- the representation that a line names, where it is in the file of this revision
abbrev pub new_body : ℕ → List ℕ → Option Representation → Result (Option (List ℕ)) FileFault
new_body revision bytes None = Ok None
new_body revision bytes (Some representation) =
    if representation.revision == revision then some_of (body_at bytes representation)
    else Ok None

-- the node revision at an offset, and what comes with it
unfoldable pub piece_at : ℕ → List ℕ → ℕ → Result FilePiece FileFault
piece_at revision bytes offset = do
  node ← node_at revision bytes offset
  text ← new_body revision bytes node.text
  properties ← new_body revision bytes node.properties
  Ok (record { text = text; properties = properties; node = node })

-- the entries in a text, none where it is kept
abbrev pub entries_from : Option (List ℕ) → Result (List DirectoryEntry) FileFault
entries_from None = Ok []
entries_from (Some body) = entries_of body

abbrev pub entries_of_kind : EntryKind → Option (List ℕ) → Result (List DirectoryEntry) FileFault
entries_of_kind File text = Ok []
entries_of_kind Directory text = entries_from text

-- the new entries that come with a directory
abbrev pub entries_in : FilePiece → Result (List DirectoryEntry) FileFault
entries_in piece = entries_of_kind piece.node.kind piece.text

-- an id lies before an offset of a revision's file
abbrev pub is_before : ℕ → ℕ → FileId → Bool
is_before revision offset id =
    nat_lt id.revision revision || ((id.revision == revision) && nat_lt id.offset offset)

-- where the entries of the directory at an offset stand, beside what was marked before; each lies
-- before it
abbrev pub marked : ℕ → ℕ → List DirectoryEntry → List Bool → Result (List Bool) FileFault
marked revision offset [] wanted = Ok wanted
marked revision offset (entry ∷ entries) wanted =
    if is_before revision offset entry.id
    then (if entry.id.revision == revision
    then marked revision offset entries (slice_set wanted entry.id.offset true)
    else marked revision offset entries wanted)
    else Err Dangling

-- the same, of entries that were read
abbrev pub marked_by : ℕ → ℕ → List Bool → Result (List DirectoryEntry) FileFault → Result (List Bool) FileFault
marked_by revision offset wanted read = read >>= λ entries. marked revision offset entries wanted

-- a node revision, and what is wanted with it
unfoldable pub step_of : ℕ → List ℕ → ℕ → List Bool → Result (FilePiece × List Bool) FileFault
step_of revision bytes offset wanted = do
  piece ← piece_at revision bytes offset
  entries ← entries_in piece
  wanted ← marked revision offset entries wanted
  Ok (piece, wanted)

-- a node revision in front of others
abbrev pub before : FilePiece → Result (List FilePiece) FileFault
    → Result (List FilePiece) FileFault
before piece (Ok pieces) = Ok (piece ∷ pieces)
before piece (Err f) = Err f

-- the wanted node revisions below an offset, the last first
abbrev pub pieces_below : ℕ → List ℕ → ℕ → List Bool → Result (List FilePiece) FileFault
pieces_below revision bytes zero wanted = Ok []
pieces_below revision bytes (suc offset) wanted =
    if slice_index_or wanted offset false
    then (step_of revision bytes offset wanted >>= λ step.
    before step.0 (pieces_below revision bytes offset step.1))
    else pieces_below revision bytes offset wanted

-- the node revisions of a revision that the root leads to
unfoldable pub pieces_of : ℕ → List ℕ → ℕ → Result (List FilePiece) FileFault
pieces_of revision bytes root =
    if nat_lt root (length bytes)
    then pieces_below revision bytes (suc root) (slice_set (replicate (suc root) false) root true)
    else Err Dangling

-- the bytes from an offset on
abbrev pub part_behind : ℕ → List ℕ → Result (List ℕ) FileFault
part_behind offset bytes =
    if nat_lt (length bytes) offset then Err BadLine else Ok (drop offset bytes)

-- what a revision file stands for: its node revisions, and its changes
unfoldable pub revision_of : ℕ → List ℕ → Result (List FilePiece × List FileChange) FileFault
revision_of revision bytes = do
  (body, trailer) ← trailer_of bytes
  pieces ← pieces_of revision bytes trailer.root
  part ← part_behind trailer.changes body
  changes ← changes_of part
  Ok (pieces, changes)
