-- The tree of each revision, by the files.
use Rattle.std.specs.Prelude.{ℕ, zero, suc, ◌==◌, List, [], ◌∷◌, Option, Some, None, option_and_then, is_some, length, if◌then◌else◌}
use Rattle.svnpath.specs.Paths.{Component, PathValue}
use Rattle.repo_api.specs.{Trees.Tree, declared.entry.Entry.Entry, declared.entry.Mark.Mark, declared.entry.Mark.TheVariants.Made}
use Rattle.revision_data.specs.Found.{found}
use Rattle.fsfs_text.specs.{Maybe.◌>>=◌, declared.id.FileId.FileId}
use Rattle.fsfs.specs.declared.piece.FilePiece.{FilePiece}
use Rattle.filed_trees.specs.{Pieces.{RevisionBytes, piece_in, content_in, properties_in, entries_in, entry_named, path_in}, Changes.{revision_in, changes_in}}

-- made in this revision at this path, or else where the predecessor's was made
abbrev pub own_from : (FileId → Option Mark) → Mark → Option FileId → Option Mark
own_from own here None = Some here
own_from own here (Some predecessor) = own predecessor

-- the own mark of a node revision of revision n, by those of the revisions below
unfoldable pub own_at : RevisionBytes → (FileId → Option Mark) → ℕ → FileId → Option Mark
own_at files own n id = do
  piece ← piece_in files id
  path ← path_in piece.node
  changes ← changes_in files n
  own_from own (Made n path) (if is_some (found changes path) then None else piece.node.predecessor)

-- the mark of the own last change of a node revision that is of a revision below a number: of its
-- revision and at its path where that revision lists the path as changed, or where it has no
-- predecessor; else its predecessor's, which is of an earlier revision
abbrev pub own_below : RevisionBytes → ℕ → FileId → Option Mark
own_below files zero id = None
own_below files (suc n) id =
    if id.revision == n then own_at files (own_below files n) n id else own_below files n id

abbrev pub own_in : RevisionBytes → FileId → Option Mark
own_in files id = own_below files (length files) id

-- what a node revision shows: it was last changed, at or under it, in its revision and at its path
unfoldable pub entry_in : RevisionBytes → FileId → Option Entry
entry_in files id = do
  piece ← piece_in files id
  content ← content_in files piece.node
  properties ← properties_in files piece.node.properties
  own ← own_in files id
  path ← path_in piece.node
  Some (record {
    content = content;
    properties = properties;
    own = own;
    last = Made id.revision path;
  })

-- the root is the first node revision that a file's last line leads to
abbrev pub first_id : List FilePiece → Option FileId
first_id [] = None
first_id (piece ∷ pieces) = Some piece.node.id

unfoldable pub root_in : RevisionBytes → ℕ → Option FileId
root_in files n = revision_in files n >>= λ revision. first_id revision.0

-- the id of an entry of a node revision
unfoldable pub kid_of : RevisionBytes → Component → FileId → Option FileId
kid_of files name id = do
  piece ← piece_in files id
  entries ← entries_in files piece.node
  entry_named name entries

-- the id that a path leads to
abbrev pub find_in : RevisionBytes → PathValue → Option FileId → Option FileId
find_in files [] o = o
find_in files (name ∷ path) o = find_in files path (option_and_then (kid_of files name) o)

-- the tree of a revision; a number that is none has no entries
abbrev pub tree_in : RevisionBytes → ℕ → Tree
tree_in files n path = option_and_then (entry_in files) (find_in files path (root_in files n))
