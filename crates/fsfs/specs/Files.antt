-- The bytes of a revision file, as a whole.
use Rattle.std.specs.{Prelude.{◌≡◌, ℕ, ◌+◌, true, List, [], ◌∷◌, ◌++◌, length, Option, Some, None, Ok, IfSome}, List.flat_map}
use Rattle.fsfs_text.specs.{Splits.is_free, declared.id.FileId.FileId, declared.representation.Representation.Representation}
use Rattle.fsfs_nodes.specs.{declared.node.FileNode.FileNode, Nodes.{node_bytes, node_at}, Fits.{NodeFits, PlaceFits}, declared.change.FileChange.FileChange}
use Rattle.fsfs_nodes.specs.{Bodies.{body_bytes, representation_at, body_at}, Changes.changes_bytes, Trailers.trailer_bytes}

-- a node revision, and the new text (or entries) and the new properties that come with it
pub record Piece : Type 0 where
  pub text : Option (List ℕ)
  pub properties : Option (List ℕ)
  pub node : FileNode

abbrev pub brought : Option (List ℕ) → List ℕ
brought None = []
brought (Some body) = body_bytes body

-- its text, its properties, and then its lines
abbrev pub piece_bytes : Piece → List ℕ
piece_bytes piece = brought piece.text ++ (brought piece.properties ++ node_bytes piece.node)

abbrev pub pieces_bytes : List Piece → List ℕ
pieces_bytes pieces = flat_map piece_bytes pieces

-- the node revisions, children before their directories and the root last; the changes; and where
-- the root and the changes begin
abbrev pub file_bytes : List Piece → List FileChange → ℕ → List ℕ
file_bytes pieces changes root =
    pieces_bytes pieces ++ changes_bytes changes
    ++ trailer_bytes (record { root = root; changes = length (pieces_bytes pieces) })

-- the line of a new representation at an offset, or the line that is kept
abbrev pub named_line : ℕ → ℕ → Option (List ℕ) → Option Representation → Option Representation
named_line revision offset None kept = kept
named_line revision offset (Some body) kept = Some (representation_at revision offset body)

-- the id at another offset
abbrev pub id_at : ℕ → FileId → FileId
id_at offset id = record { node = id.node; copy = id.copy; revision = id.revision; offset = offset }

-- a node revision with the places that it has where it is written behind so many bytes
abbrev pub placed_node : ℕ → Option (List ℕ) → Option (List ℕ) → FileNode → FileNode
placed_node offset text properties draft = record {
  id = id_at (offset + length (brought text) + length (brought properties)) draft.id;
  kind = draft.kind;
  predecessor = draft.predecessor;
  count = draft.count;
  text = named_line draft.id.revision offset text draft.text;
  properties =
      named_line draft.id.revision (offset + length (brought text)) properties draft.properties;
  path = draft.path;
  copyfrom = draft.copyfrom;
  copyroot = draft.copyroot;
}

-- a representation that comes with a node revision is the one that its line names
abbrev pub Names : ℕ → ℕ → Option (List ℕ) → Option Representation → Type 0
Names revision offset None line = Unit {0}
Names revision offset (Some body) line = line ≡ Some (representation_at revision offset body)

-- it stands where its lines say
pub record IsPlaced (revision offset : ℕ) (piece : Piece) : Type 0 where
  pub text : Names revision offset piece.text piece.node.text
  pub properties :
      Names revision (offset + length (brought piece.text)) piece.properties piece.node.properties
  pub own : piece.node.id.revision ≡ revision
  pub place : piece.node.id.offset
      ≡ offset + length (brought piece.text) + length (brought piece.properties)

abbrev pub ArePlaced : ℕ → ℕ → List Piece → Type 0
ArePlaced revision offset [] = Unit {0}
ArePlaced revision offset (piece ∷ pieces) =
    IsPlaced revision offset piece × ArePlaced revision (offset + length (piece_bytes piece)) pieces

abbrev pub PiecesFit : List Piece → Type 0
PiecesFit [] = Unit {0}
PiecesFit (piece ∷ pieces) = NodeFits piece.node × PiecesFit pieces

-- the representation that the line names is this one
abbrev pub IsBody : List ℕ → Option (List ℕ) → Option Representation → Type 0
IsBody file None line = Unit {0}
IsBody file (Some body) line =
    (named : Representation) × (line ≡ Some named) × (body_at file named ≡ Ok body)

-- it is read at its id's offset, and what comes with it where its lines say
pub record IsFound (revision : ℕ) (file : List ℕ) (piece : Piece) : Type 0 where
  pub node : node_at revision file piece.node.id.offset ≡ Ok piece.node
  pub text : IsBody file piece.text piece.node.text
  pub properties : IsBody file piece.properties piece.node.properties

abbrev pub AreFound : ℕ → List ℕ → List Piece → Type 0
AreFound revision file [] = Unit {0}
AreFound revision file (piece ∷ pieces) =
    IsFound revision file piece × AreFound revision file pieces

-- what a change can say: its id has no space and no line feed, its path no line feed
pub record ChangeFits (change : FileChange) : Type 0 where
  pub word : is_free 32 change.id ≡ true
  pub line : is_free 10 change.id ≡ true
  pub path : is_free 10 change.path ≡ true
  pub source : IfSome change.source PlaceFits

abbrev pub ChangesFit : List FileChange → Type 0
ChangesFit [] = Unit {0}
ChangesFit (change ∷ changes) = ChangeFits change × ChangesFit changes
