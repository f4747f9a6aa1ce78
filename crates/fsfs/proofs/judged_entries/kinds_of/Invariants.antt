use Rattle.std.proofs.Common.{◌≡◌, drop}
use Rattle.fsfs.specs.Judging.{with_kinds, kinds_of}
use Rattle.fsfs.proofs.judged_entries.kinds_of.Given as goal

abbrev pub invariant-loop-piece : goal.invariant-loop-piece
invariant-loop-piece l = with_kinds l.kinds.entries (drop l.piece-index l.pieces) ≡ kinds_of l.pieces
