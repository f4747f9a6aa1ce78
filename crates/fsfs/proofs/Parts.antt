-- A whole revision file that was written is read.
use Rattle.std.proofs.Common.{◌≡◌, ℕ, ◌^◌, ◌<◌, false, cond, ltb, List, ◌++◌, length, Option, Some, None, Ok, refl, ap, ◌∙◌, arith}
use Rattle.std.proofs.{lemmas.Bool.{eq-eqb, le-ltb}, lemmas.List.{length-append, drop_at}}
use Rattle.fsfs_text.specs.declared.representation.Representation.{Representation}
use Rattle.fsfs_nodes.specs.{declared.change.FileChange.FileChange, declared.trailer.Trailer.Trailer, Bodies.body_at, Changes.changes_bytes}
use Rattle.fsfs_nodes.specs.Trailers.{trailer_of}
use Rattle.fsfs.specs.{Files.{Piece, pieces_bytes, file_bytes, IsBody, IsFound, ChangesFit}, declared.piece.FilePiece.FilePiece}
use Rattle.fsfs.specs.{Pieces.{some_of, new_body, piece_at, pieces_of, part_behind, revision_of}, Whole.{file_piece, IsLineOf, KeepsOthers}}
use Rattle.fsfs.proofs.PartsAgain.{trailer_again, changes_again}

pub by_parts : (revision root : ℕ) (pieces : List Piece) (changes : List FileChange) (found : List FilePiece) → ChangesFit changes → root < 2 ^ 64 → length (pieces_bytes pieces) < 2 ^ 64
    → pieces_of revision (file_bytes pieces changes root) root ≡ Ok found → revision_of revision (file_bytes pieces changes root) ≡ Ok (found, changes)
unfolding revision_of
by_parts revision root pieces changes found fit small long e =
    let p = pieces_bytes pieces in
    let c = changes_bytes changes in
    let last : Trailer = record { root = root; changes = length p } in
    let trailer : trailer_of (file_bytes pieces changes root) ≡ Ok (p ++ c, last) = trailer_again (p ++ c) last small long in
    let within : ltb (length (p ++ c)) (length p) ≡ false = le-ltb _ _ (omega (arith, length-append p c)) in
    let part : part_behind (length p) (p ++ c) ≡ Ok c = rw (within, drop_at p c (length p) refl) refl in
    rw (trailer, e, part, changes_again changes fit) refl

body_read : (revision : ℕ) (file : List ℕ) (body : Option (List ℕ)) (line : Option Representation) → IsBody file body line → IsLineOf revision body line → new_body revision file line ≡ Ok body
body_read revision file None None found own = refl
body_read revision file None (Some representation) found own = ap (λ t. cond t (some_of (body_at file representation)) (Ok None)) own
body_read revision file (Some body) None found own = absurd (no found.1)
  where
    no : None ≡ Some found.0 → ⊥
    no e = cc
body_read revision file (Some body) (Some representation) found own =
    let same : Some representation ≡ Some found.0 = found.1 in
    let rep_is : representation ≡ found.0 = cc in
    ap (λ t. cond t (some_of (body_at file representation)) (Ok None)) (eq-eqb representation.revision revision own)
    ∙ ap (λ (r : Representation). some_of (body_at file r)) rep_is ∙ ap some_of found.2

pub piece_read : (revision : ℕ) (file : List ℕ) (piece : Piece) → IsFound revision file piece → KeepsOthers revision piece → piece_at revision file piece.node.id.offset ≡ Ok (file_piece piece)
unfolding piece_at
piece_read revision file piece found own =
    rw (found.node, body_read revision file piece.text piece.node.text found.text own.text, body_read revision file piece.properties piece.node.properties found.properties own.properties) refl
