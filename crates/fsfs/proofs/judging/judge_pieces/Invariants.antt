use Rattle.std.proofs.Common.{◌≡◌, drop}
use Rattle.fsfs.specs.Judging.{judged_pieces}
use Rattle.fsfs.proofs.judging.judge_pieces.Given as goal

abbrev pub invariant-loop-piece : goal.invariant-loop-piece
invariant-loop-piece l = judged_pieces l.revision l.kinds.entries (drop l.piece-index l.pieces) ≡ judged_pieces l.revision l.kinds.entries l.pieces
