use Rattle.std.proofs.Common.{◌≡◌, ◌≤◌, length}
use Rattle.fsfs.specs.Pieces.{pieces_below}
use Rattle.fsfs.proofs.Loops.{pieces_behind}
use Rattle.fsfs.proofs.pieces.read_wanted.Given as goal

abbrev pub invariant-loop-end : goal.invariant-loop-end
invariant-loop-end l = record {
  within : l.end ≤ length l.wanted;
  rest : pieces_behind l.pieces.items (pieces_below l.revision l.bytes l.end l.wanted) ≡ pieces_below l.revision l.bytes (length l.fn.wanted) l.fn.wanted;
}

abbrev pub decreases-loop-end : goal.decreases-loop-end
decreases-loop-end l = l.end
