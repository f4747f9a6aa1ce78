-- A whole revision file that was written is read again.
use Rattle.std.proofs.Common.{◌≡◌, ℕ, suc, ◌+◌, ◌^◌, ◌<◌, ◌≤◌, ◌⊎◌, inl, inr, Bool, true, false, cond, ltb, List, [], ◌∷◌, ◌++◌, length, map, reverse, get_or}
use Rattle.std.proofs.{Common.{set, replicate, Ok, Err, refl, sym, ap, subst, ◌∙◌, append_assoc, arith}, lemmas.Bool.{false≢true, cases_eq, lt-ltb}}
use Rattle.std.proofs.lemmas.List.{length-append, length-set, length-replicate, get_or-set_same, get_or-set_other, get_or-replicate}
use Rattle.fsfs_text.specs.declared.fault.FileFault.TheVariants.{Dangling}
use Rattle.fsfs_nodes.specs.{declared.change.FileChange.FileChange, Changes.changes_bytes, Trailers.trailer_bytes}
use Rattle.fsfs.specs.{Files.{Piece, pieces_bytes, file_bytes, ArePlaced, AreFound, PiecesFit, ChangesFit}, Pieces.{pieces_below, pieces_of, revision_of}}
use Rattle.fsfs.specs.{Whole.file_piece, Reached.{AreReached, KeepOthers}}
use Rattle.fsfs.proofs.{PartsAgain.pieces_found, Parts.by_parts, Descent.{Agrees, AreFalling, falling, all_read, descent}}

-- the table in which the root is marked
abbrev first_table : ℕ → List Bool
first_table root = set (replicate (suc root) false) root true

agrees_first : (root : ℕ) → Agrees (suc root) (λ o. o ≡ root) (first_table root)
agrees_first root = record {
  marked = λ o under e. only o under (cases_eq o root) e;
  wanted = λ o under same. ap (λ (k : ℕ). get_or (first_table root) k false) same ∙ here;
}
  where
    here : get_or (first_table root) root false ≡ true
    here = get_or-set_same (replicate (suc root) false) root true false (omega (arith, length-replicate (suc root) false))

    only : (o : ℕ) → o < suc root → (o ≡ root) ⊎ (o ≡ root → ⊥) → get_or (first_table root) o false ≡ true → o ≡ root
    only o under (inl same) e = same
    only o under (inr other) e =
        absurd (false≢true (sym (get_or-set_other (replicate (suc root) false) root o true false other ∙ get_or-replicate (suc root) o false false under) ∙ e))

-- the last of them is the root
root_last : (revision root end : ℕ) (pieces : List Piece) → AreFalling 0 end pieces → AreReached revision (λ o. o ≡ root) pieces
    → AreFalling 0 (suc root) pieces × (root < end)
root_last revision root end [] falling reached = absurd (reached root refl)
root_last revision root end (piece ∷ pieces) falling reached = ((omega (arith, reached.2), falling.1), omega (arith, reached.2, falling.0))

pub file_again : (revision root : ℕ) (pieces : List Piece) (changes : List FileChange) → ArePlaced revision 0 pieces → PiecesFit pieces → KeepOthers revision pieces
    → AreReached revision (λ o. o ≡ root) (reverse pieces) → ChangesFit changes → length (file_bytes pieces changes root) < 2 ^ 64
    → revision_of revision (file_bytes pieces changes root) ≡ Ok (map file_piece (reverse pieces), changes)
unfolding pieces_of
file_again revision root pieces changes placed fit keep reached changes_fit small =
    let b = pieces_bytes pieces in
    let c = changes_bytes changes in
    let d = trailer_bytes (record { root = root; changes = length b }) in
    let file = file_bytes pieces changes root in
    let long = length-append (b ++ c) d in
    let front = length-append b c in
    let from : 0 + length b ≡ length b = omega arith in
    let fall : AreFalling 0 (length b) (reverse pieces) = subst (λ (k : ℕ). AreFalling 0 k (reverse pieces)) from (falling revision 0 pieces placed) in
    let last = root_last revision root (length b) (reverse pieces) fall reached in
    let found_each : AreFound revision file pieces =
    subst (λ (x : List ℕ). AreFound revision x pieces) (sym (append_assoc b c d)) (pieces_found revision [] pieces (c ++ d) placed fit) in
    let read = all_read revision file pieces found_each keep in
    let table : suc root ≤ length (first_table root) = omega (arith, length-set (replicate (suc root) false) root true, length-replicate (suc root) false) in
    let down : pieces_below revision file (suc root) (first_table root) ≡ Ok (map file_piece (reverse pieces)) =
    descent revision file 0 (suc root) (λ o. o ≡ root) (first_table root) (reverse pieces) last.0 read reached (agrees_first root) table in
    let within : ltb root (length file) ≡ true = lt-ltb root (length file) (omega (arith, long, front, last.1)) in
    let found : pieces_of revision file root ≡ Ok (map file_piece (reverse pieces)) =
    ap (λ t. cond t (pieces_below revision file (suc root) (first_table root)) (Err Dangling)) within ∙ down in
    by_parts revision root pieces changes (map file_piece (reverse pieces)) changes_fit (omega (arith, long, front, last.1, small)) (omega (arith, long, front, small)) found
