-- What a revision file says of other revisions, and of what kinds its entries are.
use Rattle.std.specs.Prelude.{ℕ, ◌==◌, nat_lt, Bool, true, false, List, [], ◌∷◌, Option, Some, None, Result, Ok, Err, if◌then◌else◌}
use Rattle.std.specs.{BTreeMap.{insert_entry, is_at}, Map.lookup, Ordering.nat_cmp}
use Rattle.fsfs_text.specs.{declared.fault.FileFault.FileFault, declared.fault.FileFault.TheVariants.{BadLine, Dangling}, Reading.◌>>=◌}
use Rattle.fsfs_text.specs.{declared.id.FileId.FileId, declared.place.Place.Place}
use Rattle.fsfs_nodes.specs.{declared.entries.EntryKind.EntryKind, declared.entries.EntryKind.TheVariants.{File, Directory}}
use Rattle.fsfs_nodes.specs.{declared.entries.DirectoryEntry.DirectoryEntry, declared.node.FileNode.FileNode, declared.change.FileChange.FileChange}
use Rattle.fsfs.specs.{declared.piece.FilePiece.FilePiece, Pieces.entries_in}

-- nothing is wrong
abbrev pub Judged : Type 0
Judged = Result (Unit {0}) FileFault

-- kinds of node revisions by their offsets
abbrev pub Kinds : Type 0
Kinds = List (ℕ × EntryKind)

abbrev pub with_kinds : Kinds → List FilePiece → Kinds
with_kinds kinds [] = kinds
with_kinds kinds (piece ∷ pieces) =
    with_kinds (insert_entry nat_cmp kinds piece.node.id.offset piece.node.kind) pieces

abbrev pub kinds_of : List FilePiece → Kinds
kinds_of pieces = with_kinds [] pieces

-- what was found is of this kind
abbrev pub is_kind : EntryKind → Option EntryKind → Bool
is_kind kind None = false
is_kind File (Some File) = true
is_kind File (Some Directory) = false
is_kind Directory (Some File) = false
is_kind Directory (Some Directory) = true

-- an entry that names a node revision of this revision says of what kind that is
abbrev pub is_right : ℕ → Kinds → DirectoryEntry → Bool
is_right revision kinds entry =
    if entry.id.revision == revision
    then is_kind entry.kind (lookup (is_at (nat_cmp entry.id.offset)) kinds)
    else true

abbrev pub judged_entries : ℕ → Kinds → List DirectoryEntry → Judged
judged_entries revision kinds [] = Ok tt
judged_entries revision kinds (entry ∷ entries) =
    if is_right revision kinds entry then judged_entries revision kinds entries else Err BadLine

-- the same, of entries that were read
abbrev pub judged_read : ℕ → Kinds → Result (List DirectoryEntry) FileFault → Judged
judged_read revision kinds read = read >>= λ entries. judged_entries revision kinds entries

-- an id is of an earlier revision, if there is one
abbrev pub is_earlier_id : ℕ → Option FileId → Bool
is_earlier_id revision None = true
is_earlier_id revision (Some id) = nat_lt id.revision revision

-- a place is in an earlier revision, if there is one
abbrev pub is_earlier_place : ℕ → Option Place → Bool
is_earlier_place revision None = true
is_earlier_place revision (Some place) = nat_lt place.revision revision

-- its predecessor is of an earlier revision, and so is the source of its copy
abbrev pub judged_node : ℕ → FileNode → Judged
judged_node revision node =
    if is_earlier_id revision node.predecessor
    then (if is_earlier_place revision node.copyfrom then Ok tt else Err BadLine)
    else Err Dangling

-- a node revision, and the new entries that come with it
unfoldable pub judged_piece : ℕ → Kinds → FilePiece → Judged
judged_piece revision kinds piece =
    judged_node revision piece.node >>= λ x. entries_in piece >>= λ entries.
    judged_entries revision kinds entries

abbrev pub judged_pieces : ℕ → Kinds → List FilePiece → Judged
judged_pieces revision kinds [] = Ok tt
judged_pieces revision kinds (piece ∷ pieces) =
    judged_piece revision kinds piece >>= λ x. judged_pieces revision kinds pieces

-- the source of each copy is of an earlier revision
abbrev pub judged_changes : ℕ → List FileChange → Judged
judged_changes revision [] = Ok tt
judged_changes revision (change ∷ changes) =
    if is_earlier_place revision change.source then judged_changes revision changes
    else Err BadLine

-- the node revisions, and then the changes
unfoldable pub judged_revision : ℕ → List FilePiece → List FileChange → Judged
judged_revision revision pieces changes =
    judged_pieces revision (kinds_of pieces) pieces >>= λ x. judged_changes revision changes
