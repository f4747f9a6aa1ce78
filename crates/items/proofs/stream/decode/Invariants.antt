use Rattle.std.proofs.Common.{take}
use Rattle.std.specs.List.{flat_map}
use Rattle.items.specs.Decoding.{DecodedSoFar}
use Rattle.items.proofs.stream.decode.Given as goal

abbrev pub invariant-loop-piece : goal.invariant-loop-piece
invariant-loop-piece l = DecodedSoFar (flat_map (λ piece. piece.items) (take l.piece-index l.pieces)) l.items.items l.reader
