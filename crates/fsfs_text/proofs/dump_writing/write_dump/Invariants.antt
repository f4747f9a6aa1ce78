use Rattle.std.proofs.Common.{◌≡◌, take}
use Rattle.std.specs.List.{flat_map}
use Rattle.fsfs_text.specs.Dumps.{pair_bytes}
use Rattle.fsfs_text.proofs.dump_writing.write_dump.Given as goal

abbrev pub invariant-loop-pair : goal.invariant-loop-pair
invariant-loop-pair l = l.out.items ≡ flat_map pair_bytes (take l.pair-index l.pairs)
