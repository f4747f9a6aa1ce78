use Rattle.std.proofs.Common.{rules, ◌≡◌, ◌⊎◌, inl, inr, ⊎_elim, Err, Global, List, Vec, arith, length, subst, sym}
use Rattle.fsfs_text.specs.Reading.{Answers}
use Rattle.fsfs.specs.{declared.piece.FilePiece.FilePiece, Pieces.pieces_below}
use Rattle.fsfs.proofs.Loops.{next_piece, no_piece}
use Rattle.fsfs.proofs.pieces.read_wanted.Goals as goal

pub loop-end-preserved-in-Continue-branch-2 : goal.loop-end-preserved-in-Continue-branch-2
loop-end-preserved-in-Continue-branch-2 c =
    record {
      within = omega (arith, c.take_piece.auto.wanted, c.loop-end.invariant.within);
      rest = rw c.in_ok-push.ensures.items (next_piece c.args.revision c.args.bytes.now c.loop-end.pieces.items c.loop-end.end c.loop-end.wanted _ c.loop-end-test.true c.loop-end.invariant.rest c.in_ok-piece.piece c.take_piece.new.wanted c.if-wanted-end.true c.in_ok-piece.ensures);
    }

pub returns-in_err-piece : goal.returns-in_err-piece
returns-in_err-piece c =
    let fault = c.in_err-piece.field-0.0 in
    let read = pieces_below c.args.revision c.args.bytes.now (length c.args.wanted.now) c.args.wanted.now in
    let is : c.from_residual.result ≡ Err fault = search rules in
    subst (λ r. Answers {X = Vec FilePiece Global} {Y = List FilePiece} (λ v. v.items) r read) (sym is)
    (⊎_elim (λ wrong. inl (no_piece c.args.revision c.args.bytes.now c.loop-end.pieces.items c.loop-end.end c.loop-end.wanted read
    c.loop-end-test.true c.loop-end.invariant.rest fault c.if-wanted-end.true wrong)) (λ none. inr none) c.in_err-piece.ensures)
