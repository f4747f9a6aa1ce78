-- What was written, as it is read.
use Rattle.std.specs.Prelude.{◌≡◌, ◌==◌, ℕ, false, List, [], ◌∷◌, Option, Some, None, IfSome}
use Rattle.fsfs_text.specs.{declared.representation.Representation.Representation, Fits.IdFits}
use Rattle.fsfs_nodes.specs.declared.entries.DirectoryEntry.{DirectoryEntry}
use Rattle.fsfs.specs.{Files.Piece, declared.piece.FilePiece.FilePiece}

abbrev pub file_piece : Piece → FilePiece
file_piece piece = record { text = piece.text; properties = piece.properties; node = piece.node }

-- a new representation is named in this revision, and another line in another
abbrev pub IsLineOf : ℕ → Option (List ℕ) → Option Representation → Type 0
IsLineOf revision None line = IfSome line (λ named. (named.revision == revision) ≡ false)
IsLineOf revision (Some body) line = IfSome line (λ named. named.revision ≡ revision)

pub record KeepsOthers (revision : ℕ) (piece : Piece) : Type 0 where
  pub text : IsLineOf revision piece.text piece.node.text
  pub properties : IsLineOf revision piece.properties piece.node.properties

-- what entries can say
abbrev pub EntriesFit : List DirectoryEntry → Type 0
EntriesFit [] = Unit {0}
EntriesFit (entry ∷ entries) = IdFits entry.id × EntriesFit entries
