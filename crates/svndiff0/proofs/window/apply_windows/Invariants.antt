use Rattle.std.proofs.Common.{length}
use Rattle.svndiff0.specs.Sums.{SumsGrow}
use Rattle.svndiff0.proofs.Documents.{Reached}
use Rattle.svndiff0.proofs.window.apply_windows.Given as goal

abbrev pub invariant-windows : goal.invariant-windows
invariant-windows l = record {
  reached : Reached l.base l.fn.text.items l.bytes l.text.items l.rest;
  grows : SumsGrow l.fn.text.items l.text.items;
}

abbrev pub decreases-windows : goal.decreases-windows
decreases-windows l = length l.rest
