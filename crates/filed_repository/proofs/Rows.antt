-- The table that the writer gives has the rows of what is read of its file.
use Rattle.std.proofs.Common.{◌≡◌, ℕ, List, [], ◌∷◌, ◌++◌, map, reverse, Option, Some, option_map, refl, sym, ap, ◌∙◌}
use Rattle.std.proofs.{lemmas.List.{map-append, reverse-append, reverse-reverse}, lemmas.Option.same_Some}
use Rattle.fsfs_nodes.specs.declared.current.NextIds.{NextIds}
use Rattle.fsfs.specs.{Whole.file_piece, declared.piece.FilePiece.FilePiece, Files.Piece}
use Rattle.filed_trees.specs.{Tables.{HasRows, placed_of}, declared.placed.Placed.Placed, declared.table.Table.Table}
use Rattle.filed_writing.specs.{Layout.{IsLaidOut, rows_here}, Pieces.rows_of, declared.revision.Revision.Revision}

map_back : {X Y : Type 0} (f : X → Y) (xs : List X) → reverse (map f xs) ≡ map f (reverse xs)
map_back f [] = refl
map_back f (x ∷ xs) = reverse-append (f x ∷ []) (map f xs) ∙ ap (λ l. l ++ f x ∷ []) (map_back f xs)
    ∙ sym (ap (λ l. map f l) (reverse-append (x ∷ []) xs) ∙ map-append f (reverse xs) (x ∷ []))

abbrev row : FilePiece → Placed
row piece = placed_of piece.node

rows_read : (pieces : List Piece) → map row (map file_piece pieces) ≡ rows_of pieces
rows_read [] = refl
rows_read (piece ∷ pieces) = ap (λ l. placed_of piece.node ∷ l) (rows_read pieces)

rows_back : (pieces : List Piece) → map row (reverse (map file_piece (reverse pieces))) ≡ rows_of pieces
rows_back pieces = ap (λ l. map row l) (map_back file_piece (reverse pieces))
    ∙ ap (λ l. map row (map file_piece l)) (reverse-reverse pieces) ∙ rows_read pieces

pub rows_written : (r : Revision) (ids : Option NextIds) (file : List ℕ) (after : Option NextIds) (table : Table)
    → (laid : IsLaidOut r ids file after) → rows_here r ids ≡ Some table.placed.items
    → HasRows (map file_piece (reverse laid.pieces)) table
rows_written r ids file after table laid rows =
    let items : table.placed.items ≡ rows_of laid.pieces =
    same_Some table.placed.items (rows_of laid.pieces) (sym rows ∙ ap (λ o. option_map rows_of o) laid.pieces_are) in
    items ∙ sym (rows_back laid.pieces)
