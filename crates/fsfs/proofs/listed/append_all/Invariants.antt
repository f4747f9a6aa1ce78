use Rattle.std.proofs.Common.{◌≡◌, ◌++◌, take}
use Rattle.fsfs.specs.Known.{all_bytes, lengths_of}
use Rattle.fsfs.proofs.listed.append_all.Given as goal

abbrev pub invariant-loop-entry : goal.invariant-loop-entry
invariant-loop-entry l = record {
  out : l.out.items ≡ l.fn.out.items ++ all_bytes (take l.entry-index l.entries);
  lengths : l.lengths.items ≡ lengths_of (take l.entry-index l.entries);
}
