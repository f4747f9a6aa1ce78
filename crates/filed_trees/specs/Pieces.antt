-- Node revisions in the files of revisions, and what they contain.
use Rattle.std.specs.{Prelude.{ℕ, Bool, true, false, ◌==◌, ◌&&◌, List, [], ◌∷◌, Option, Some, None, option_map, slice_get, if◌then◌else◌}, Result.result_ok}
use Rattle.svnpath.specs.{Paths.{Component, PathValue, same_component}, Texts.parsed}
use Rattle.repo_api.specs.{Properties.PropertyList, declared.entry.Content.Content}
use Rattle.repo_api.specs.declared.entry.Content.TheVariants as contents
use Rattle.fsfs_text.specs.{Maybe.◌>>=◌, declared.id.FileId.FileId, declared.id.IdPart.IdPart, declared.representation.Representation.Representation}
use Rattle.fsfs_nodes.specs.{Entries.entries_of, declared.entries.DirectoryEntry.DirectoryEntry, declared.entries.EntryKind.EntryKind}
use Rattle.fsfs_nodes.specs.{declared.entries.EntryKind.TheVariants.{File, Directory}, declared.node.FileNode.FileNode, Bodies.body_at}
use Rattle.fsfs_nodes.specs.Properties.{properties_of}
use Rattle.fsfs.specs.{Pieces.piece_at, declared.piece.FilePiece.FilePiece}

-- the file of each revision, from revision 0 on
abbrev pub RevisionBytes : Type 0
RevisionBytes = List (List ℕ)

abbrev pub same_number : Option ℕ → Option ℕ → Bool
same_number None None = true
same_number None (Some n) = false
same_number (Some m) None = false
same_number (Some m) (Some n) = m == n

abbrev pub same_part : IdPart → IdPart → Bool
same_part a b = (a.number == b.number) && same_number a.revision b.revision

-- ids are the same where all of their parts are
abbrev pub same_id : FileId → FileId → Bool
same_id a b =
    same_part a.node b.node && same_part a.copy b.copy && (a.revision == b.revision)
    && (a.offset == b.offset)

abbrev pub if_named : FileId → FilePiece → Option FilePiece
if_named id piece = if same_id piece.node.id id then Some piece else None

-- the node revision of an id: in the file of its revision, at its offset, and of this very id
unfoldable pub piece_in : RevisionBytes → FileId → Option FilePiece
piece_in files id = do
  file ← slice_get files id.revision
  piece ← result_ok (piece_at id.revision file id.offset)
  if_named id piece

-- the bytes that a line names, in the file of the line's revision
unfoldable pub body_at_line : RevisionBytes → Representation → Option (List ℕ)
body_at_line files line = do
  file ← slice_get files line.revision
  result_ok (body_at file line)

-- a text without a line is empty, and so are properties and entries
abbrev pub text_in : RevisionBytes → Option Representation → Option (List ℕ)
text_in files None = Some []
text_in files (Some line) = body_at_line files line

abbrev pub properties_in : RevisionBytes → Option Representation → Option PropertyList
properties_in files None = Some []
properties_in files (Some line) =
    body_at_line files line >>= λ body. result_ok (properties_of body)

abbrev pub entries_at : RevisionBytes → Option Representation → Option (List DirectoryEntry)
entries_at files None = Some []
entries_at files (Some line) = body_at_line files line >>= λ body. result_ok (entries_of body)

-- the entries of a node revision; a file has none
abbrev pub entries_by : RevisionBytes → Option Representation → EntryKind → Option (List DirectoryEntry)
entries_by files line File = Some []
entries_by files line Directory = entries_at files line

abbrev pub entries_in : RevisionBytes → FileNode → Option (List DirectoryEntry)
entries_in files node = entries_by files node.text node.kind

-- a file with its text, or a directory whose entries can be read
abbrev pub content_by : RevisionBytes → Option Representation → EntryKind → Option Content
content_by files line File = option_map contents.File (text_in files line)
content_by files line Directory =
    option_map (λ entries. contents.Directory) (entries_at files line)

abbrev pub content_in : RevisionBytes → FileNode → Option Content
content_in files node = content_by files node.text node.kind

-- the path at which it was made
abbrev pub path_in : FileNode → Option PathValue
path_in node = result_ok (parsed node.path)

-- the id of the first entry of a name
abbrev pub entry_named : Component → List DirectoryEntry → Option FileId
entry_named name [] = None
entry_named name (entry ∷ entries) =
    if same_component entry.name name then Some entry.id else entry_named name entries
