use Rattle.std.proofs.Common.{◌≡◌, ◌++◌, map}
use Rattle.std.specs.List.{flat_map}
use Rattle.fsfs_text.specs.Dumps.{pair_bytes}
use Rattle.fsfs_nodes.specs.Properties.{row_pair}
use Rattle.fsfs_nodes.proofs.properties.write_properties.Given as goal

abbrev pub invariant-loop-name : goal.invariant-loop-name
invariant-loop-name l =
    l.out.items ++ flat_map pair_bytes (map row_pair l.name-iterator) ≡ flat_map pair_bytes (map row_pair l.properties)
