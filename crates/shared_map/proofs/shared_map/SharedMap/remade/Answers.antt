use Rattle.std.proofs.Common.{◌∙◌}
use Rattle.shared_map.specs.Entries.{all_entries}
use Rattle.shared_map.proofs.Maps.{map_entries}
use Rattle.shared_map.proofs.shared_map.SharedMap.remade.Goals as goal

pub returns : goal.returns
returns g c = map_entries (all_entries c.in_ok-parts.parts.items) c.in_ok-parts.ensures.parts.sorted ∙ c.in_ok-parts.ensures.entries
