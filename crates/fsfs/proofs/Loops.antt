-- Reading node revisions one after the other, as a loop does.
use Rattle.std.proofs.Common.{◌≡◌, ℕ, suc, ◌-◌, ◌+◌, ◌<◌, Bool, true, false, cond, List, [], ◌∷◌, ◌++◌, get_or, Result, Ok, Err, refl, sym, ap, ◌∙◌}
use Rattle.std.proofs.{Common.{append_assoc, arith}, lemmas.List.append-nil}
use Rattle.fsfs_text.specs.{declared.fault.FileFault.FileFault, Reading.◌>>=◌}
use Rattle.fsfs.specs.{declared.piece.FilePiece.FilePiece, Pieces.{step_of, before, pieces_below}}

abbrev Found : Type 0
Found = Result (List FilePiece) FileFault

-- what was read before, and what is still read
abbrev pub pieces_behind : List FilePiece → Found → Found
pieces_behind front (Ok pieces) = Ok (front ++ pieces)
pieces_behind front (Err f) = Err f

behind-before : (front : List FilePiece) (piece : FilePiece) (read : Found) → pieces_behind front (before piece read) ≡ pieces_behind (front ++ piece ∷ []) read
behind-before front piece (Ok pieces) = ap (λ (x : List FilePiece). Ok x) (sym (append_assoc front (piece ∷ []) pieces))
behind-before front piece (Err f) = refl

module _ (revision : ℕ) (bytes : List ℕ) (front : List FilePiece) (end : ℕ) (wanted : List Bool) (total : Found) (some : 0 < end)
    (so_far : pieces_behind front (pieces_below revision bytes end wanted) ≡ total) where
  step : total ≡ pieces_behind front (cond (get_or wanted (end - 1) false) (step_of revision bytes (end - 1) wanted >>= λ x. before x.0 (pieces_below revision bytes (end - 1) x.1)) (pieces_below revision bytes (end - 1) wanted))
  step =
      let one : end ≡ suc (end - 1) = omega arith in
      sym so_far ∙ ap (λ (k : ℕ). pieces_behind front (pieces_below revision bytes k wanted)) one

  pub unwanted : get_or wanted (end - 1) false ≡ false → pieces_behind front (pieces_below revision bytes (end - 1) wanted) ≡ total
  unwanted e = sym (step ∙ ap (λ t. pieces_behind front (cond t (step_of revision bytes (end - 1) wanted >>= λ x. before x.0 (pieces_below revision bytes (end - 1) x.1)) (pieces_below revision bytes (end - 1) wanted))) e)

  at_piece : get_or wanted (end - 1) false ≡ true → total ≡ pieces_behind front (step_of revision bytes (end - 1) wanted >>= λ x. before x.0 (pieces_below revision bytes (end - 1) x.1))
  at_piece e = step ∙ ap (λ t. pieces_behind front (cond t (step_of revision bytes (end - 1) wanted >>= λ x. before x.0 (pieces_below revision bytes (end - 1) x.1)) (pieces_below revision bytes (end - 1) wanted))) e

  pub no_piece : (f : FileFault) → get_or wanted (end - 1) false ≡ true → step_of revision bytes (end - 1) wanted ≡ Err f → total ≡ Err f
  no_piece f e wrong = at_piece e ∙ ap (λ (r : Result (FilePiece × List Bool) FileFault). pieces_behind front (r >>= λ x. before x.0 (pieces_below revision bytes (end - 1) x.1))) wrong

  pub next_piece : (piece : FilePiece) (more : List Bool) → get_or wanted (end - 1) false ≡ true → step_of revision bytes (end - 1) wanted ≡ Ok (piece, more)
      → pieces_behind (front ++ piece ∷ []) (pieces_below revision bytes (end - 1) more) ≡ total
  next_piece piece more e right =
      sym (at_piece e ∙ ap (λ (r : Result (FilePiece × List Bool) FileFault). pieces_behind front (r >>= λ x. before x.0 (pieces_below revision bytes (end - 1) x.1))) right
      ∙ behind-before front piece (pieces_below revision bytes (end - 1) more))

pub no_more : (revision : ℕ) (bytes : List ℕ) (front : List FilePiece) (end : ℕ) (wanted : List Bool) (total : Found) → end ≡ 0
    → pieces_behind front (pieces_below revision bytes end wanted) ≡ total → total ≡ Ok front
no_more revision bytes front end wanted total none so_far =
    sym so_far ∙ ap (λ (k : ℕ). pieces_behind front (pieces_below revision bytes k wanted)) none ∙ ap (λ (x : List FilePiece). Ok x) (append-nil front)
