use Rattle.std.proofs.Common.{◌≡◌, drop}
use Rattle.fsfs.specs.Pieces.{marked}
use Rattle.fsfs.proofs.pieces.mark.Given as goal

abbrev pub invariant-loop-entry : goal.invariant-loop-entry
invariant-loop-entry l = marked l.revision l.offset (drop l.entry-index l.entries) l.wanted ≡ marked l.revision l.offset l.entries l.fn.wanted
