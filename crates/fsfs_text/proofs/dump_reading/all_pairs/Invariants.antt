use Rattle.std.proofs.Common.{◌≡◌, ◌-◌, length}
use Rattle.fsfs_text.specs.DumpReading.{pairs_within}
use Rattle.fsfs_text.proofs.DumpLoop.{behind}
use Rattle.fsfs_text.proofs.dump_reading.all_pairs.Given as goal

abbrev pub invariant-loop : goal.invariant-loop
invariant-loop l = behind l.pairs.items (pairs_within (length l.bytes - l.counter) l.rest) ≡ pairs_within (length l.bytes) l.bytes
