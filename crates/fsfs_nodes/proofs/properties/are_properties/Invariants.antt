use Rattle.std.proofs.Common.{◌≡◌}
use Rattle.std.specs.List.{list_all}
use Rattle.fsfs_nodes.specs.Properties.{is_property}
use Rattle.fsfs_nodes.proofs.properties.are_properties.Given as goal

abbrev pub invariant-loop-name : goal.invariant-loop-name
invariant-loop-name l = list_all is_property l.name-iterator ≡ list_all is_property l.rows
