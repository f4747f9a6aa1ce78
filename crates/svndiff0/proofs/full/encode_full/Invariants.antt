-- What was written and the windows of the rest are the document.
use Rattle.std.proofs.Common.{◌≡◌, ℕ, ◌+◌, ◌++◌}
use Rattle.svndiff0.specs.Full.{full_windows, full_document}
use Rattle.svndiff0.proofs.full.encode_full.Given as goal

abbrev pub invariant-loop : goal.invariant-loop
invariant-loop l = (left : ℕ) × (left + l.counter ≡ l.end) × (l.document.items ++ full_windows left l.rest ≡ full_document l.text)
