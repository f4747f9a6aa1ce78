-- What is read of a file comes in the other order than it was written.
use Rattle.std.proofs.Common.{◌≡◌, ◌-◌, ℕ, List, length, map, reverse, get_or, Option, Some, None, refl, sym, ap, ◌∙◌, arith}
use Rattle.std.proofs.{lemmas.List.{get_or-reverse, length-reverse}, lemmas.Option.{get_or_from_slice_get, slice_get-get_or, slice_get-map, slice_get_within}}
use Rattle.std.specs.Prelude.{option_map, slice_get}
use Rattle.fsfs.specs.{Files.Piece, declared.piece.FilePiece.FilePiece, Whole.file_piece}

backwards : {X : Type 0} (xs : List X) (k : ℕ) (x : X) → slice_get xs k ≡ Some x → slice_get (reverse xs) (length xs - 1 - k) ≡ Some x
backwards xs k x at =
    let within = slice_get_within xs k x at in
    slice_get-get_or (reverse xs) (length xs - 1 - k) x (omega (arith, within, length-reverse xs))
    ∙ ap Some (get_or-reverse xs (length xs - 1 - k) x (omega (arith, within))
    ∙ ap (λ j. get_or xs j x) (omega (arith, within)) ∙ get_or_from_slice_get xs k x x at)

forwards : {X : Type 0} (xs : List X) (k : ℕ) (x : X) → slice_get (reverse xs) k ≡ Some x → slice_get xs (length xs - 1 - k) ≡ Some x
forwards xs k x at =
    let within = slice_get_within (reverse xs) k x at in
    let long = length-reverse xs in
    slice_get-get_or xs (length xs - 1 - k) x (omega (arith, within, long))
    ∙ ap Some (sym (get_or-reverse xs k x (omega (arith, within, long))) ∙ get_or_from_slice_get (reverse xs) k x x at)

-- it is one of those that were written
pub record WasWritten (pieces : List Piece) (piece : FilePiece) : Type 0 where
  pub place : ℕ
  pub written : Piece
  pub there : slice_get pieces place ≡ Some written
  pub is : file_piece written ≡ piece

pub was_written : (pieces : List Piece) (k : ℕ) (piece : FilePiece) → slice_get (map file_piece (reverse pieces)) k ≡ Some piece → WasWritten pieces piece
was_written pieces k piece at = by (slice_get (reverse pieces) k) refl (sym (slice_get-map file_piece (reverse pieces) k) ∙ at)
  where
    by : (o : Option Piece) → slice_get (reverse pieces) k ≡ o → option_map file_piece o ≡ Some piece → WasWritten pieces piece
    by None there e = absurd (cc e)
    by (Some written) there e =
        record { place = length pieces - 1 - k; written = written; there = forwards pieces k written there; is = cc e }

-- and each of those is read
pub is_read : (pieces : List Piece) (k : ℕ) (piece : Piece) → slice_get pieces k ≡ Some piece
    → slice_get (map file_piece (reverse pieces)) (length pieces - 1 - k) ≡ Some (file_piece piece)
is_read pieces k piece at = slice_get-map file_piece (reverse pieces) (length pieces - 1 - k) ∙ ap (option_map file_piece) (backwards pieces k piece at)
