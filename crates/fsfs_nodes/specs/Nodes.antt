-- Node revisions, as lines.
use Rattle.std.specs.Prelude.{ℕ, ◌-◌, ◌^◌, ◌==◌, ◌&&◌, nat_lt, List, [], ◌∷◌, ◌++◌, length, drop, codes, Option, Some, None, option_map, Result, Ok, Err}
use Rattle.std.specs.{Prelude.if◌then◌else◌, Cmp.Lexicographic.pointwise}
use Rattle.fsfs_text.specs.{declared.fault.FileFault.FileFault, declared.fault.FileFault.TheVariants.Dangling, Numerals.{decimal_of, numeral}, Reading.◌>>=◌}
use Rattle.fsfs_text.specs.{Splits.{split_once, without_prefix}, Ids.{id_text, id_of}, Representations.{representation_text, representation_of}}
use Rattle.fsfs_text.specs.{Places.{place_text, place_of}, declared.id.FileId.FileId}
use Rattle.fsfs_nodes.specs.{Headers.{Line, line_bytes, optional_line, block_of, value_of, optional, field}, declared.entries.EntryKind.EntryKind}
use Rattle.fsfs_nodes.specs.{declared.entries.EntryKind.TheVariants.{File, Directory}, declared.node.FileNode.FileNode}

abbrev pub kind_text : EntryKind → List ℕ
kind_text File = codes "file"
kind_text Directory = codes "dir"

unfoldable pub kind_of : List ℕ → Option EntryKind
kind_of text =
    if pointwise ◌==◌ text (codes "file") then Some File
    else if pointwise ◌==◌ text (codes "dir") then Some Directory
    else None

-- what it is
abbrev pub identity_lines : FileNode → List ℕ
identity_lines node =
    line_bytes (codes "id") (id_text node.id)
    ++ line_bytes (codes "type") (kind_text node.kind)
    ++ optional_line (codes "pred") (option_map id_text node.predecessor)
    ++ line_bytes (codes "count") (numeral 10 node.count)

-- what it contains
abbrev pub content_lines : FileNode → List ℕ
content_lines node =
    optional_line (codes "text") (option_map representation_text node.text)
    ++ optional_line (codes "props") (option_map representation_text node.properties)

-- where it was made
abbrev pub origin_lines : FileNode → List ℕ
origin_lines node =
    line_bytes (codes "cpath") node.path
    ++ optional_line (codes "copyfrom") (option_map place_text node.copyfrom)
    ++ optional_line (codes "copyroot") (option_map place_text node.copyroot)

-- its lines, those without a value left out, and an empty line
abbrev pub node_bytes : FileNode → List ℕ
node_bytes node = identity_lines node ++ content_lines node ++ origin_lines node ++ 10 ∷ []

-- the id that the first line says
abbrev pub id_behind : Option (List ℕ) → Option FileId
id_behind None = None
id_behind (Some text) = id_of text

abbrev pub id_first : Option (List ℕ × List ℕ) → Option FileId
id_first None = None
id_first (Some line) = id_behind (without_prefix (codes "id: ") line.0)

unfoldable pub id_line : List ℕ → Option FileId
id_line bytes = id_first (split_once 10 bytes)

-- it has to stand where it says
abbrev pub standing : ℕ → ℕ → Option FileId → Result FileId FileFault
standing revision offset None = Err Dangling
standing revision offset (Some id) =
    if (id.revision == revision) && (id.offset == offset) then Ok id else Err Dangling

unfoldable pub own_id : ℕ → ℕ → List ℕ → Result FileId FileFault
own_id revision offset bytes = standing revision offset (id_line bytes)

abbrev pub count_of : List ℕ → Option ℕ
count_of text = decimal_of (2 ^ 64 - 1) text

abbrev pub path_of : List ℕ → Option (List ℕ)
path_of text = Some text

-- what the lines say; lines of other names are passed over, and of two of one name the first counts
unfoldable pub node_of : FileId → List Line → Result FileNode FileFault
node_of id lines = do
  kind ← field kind_of (value_of (codes "type") lines)
  predecessor ← optional id_of (value_of (codes "pred") lines)
  count ← field count_of (value_of (codes "count") lines)
  text ← optional representation_of (value_of (codes "text") lines)
  properties ← optional representation_of (value_of (codes "props") lines)
  path ← field path_of (value_of (codes "cpath") lines)
  copyfrom ← optional place_of (value_of (codes "copyfrom") lines)
  copyroot ← optional place_of (value_of (codes "copyroot") lines)
  Ok (record {
    id = id;
    kind = kind;
    predecessor = predecessor;
    count = count;
    text = text;
    properties = properties;
    path = path;
    copyfrom = copyfrom;
    copyroot = copyroot;
  })

-- the id in front, and what its lines say
abbrev pub node_from : ℕ → ℕ → List ℕ → Result FileNode FileFault
node_from revision offset rest = do
  id ← own_id revision offset rest
  lines ← block_of rest
  node_of id lines

-- the node revision at an offset of a revision's file
unfoldable pub node_at : ℕ → List ℕ → ℕ → Result FileNode FileFault
node_at revision bytes offset =
    if nat_lt (length bytes) offset then Err Dangling
    else node_from revision offset (drop offset bytes)
