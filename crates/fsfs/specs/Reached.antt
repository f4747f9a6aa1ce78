-- Which node revisions a root leads to.
use Rattle.std.specs.Prelude.{◌≡◌, ℕ, true, List, [], ◌∷◌, Ok}
use Rattle.std.proofs.Common.{◌⊎◌}
use Rattle.fsfs_nodes.specs.declared.entries.DirectoryEntry.{DirectoryEntry}
use Rattle.fsfs.specs.{Files.Piece, Pieces.{is_before, entries_in}, Whole.{file_piece, KeepsOthers}}

-- an entry names the node revision at this offset of the revision's file
abbrev pub NamesIn : ℕ → List DirectoryEntry → ℕ → Type 0
NamesIn revision [] offset = ⊥
NamesIn revision (entry ∷ entries) offset =
    ((entry.id.revision ≡ revision) × (entry.id.offset ≡ offset)) ⊎ NamesIn revision entries offset

-- each entry names what lies before its directory, which stands at this offset
abbrev pub LieBefore : ℕ → ℕ → List DirectoryEntry → Type 0
LieBefore revision offset [] = Unit {0}
LieBefore revision offset (entry ∷ entries) =
    (is_before revision offset entry.id ≡ true) × LieBefore revision offset entries

-- what is wanted once a node revision is read: the others, and what its entries name
abbrev pub WantedAfter : ℕ → ℕ → List DirectoryEntry → (ℕ → Type 0) → ℕ → Type 0
WantedAfter revision place entries IsWanted offset =
    ((offset ≡ place) → ⊥) × (IsWanted offset ⊎ NamesIn revision entries offset)

-- From the last to the first each node revision is wanted, as the root or since an entry of one that
-- was read before names it; and at the end nothing is.
abbrev pub AreReached : ℕ → (ℕ → Type 0) → List Piece → Type 0
AreReached revision IsWanted [] = (offset : ℕ) → IsWanted offset → ⊥
AreReached revision IsWanted (piece ∷ pieces) =
    (entries : List DirectoryEntry)
    × (entries_in (file_piece piece) ≡ Ok entries)
    × IsWanted piece.node.id.offset
    × LieBefore revision piece.node.id.offset entries
    × AreReached revision (WantedAfter revision piece.node.id.offset entries IsWanted) pieces

-- the lines of each, where nothing new comes, name other revisions
abbrev pub KeepOthers : ℕ → List Piece → Type 0
KeepOthers revision [] = Unit {0}
KeepOthers revision (piece ∷ pieces) = KeepsOthers revision piece × KeepOthers revision pieces
