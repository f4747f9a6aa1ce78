use Rattle.std.proofs.Common.{◌≡◌, take}
use Rattle.std.specs.List.{flat_map}
use Rattle.fsfs_text.specs.Dumps.{pair_bytes}
use Rattle.fsfs_nodes.specs.Entries.{entry_pairs}
use Rattle.fsfs_nodes.proofs.entries.write_entries.Given as goal

abbrev pub invariant-loop-entry : goal.invariant-loop-entry
invariant-loop-entry l = l.out.items ≡ flat_map pair_bytes (entry_pairs (take l.entry-index l.entries))
