use Rattle.std.proofs.Common.{ap}
use Rattle.shared_map.specs.Entries.{all_entries}
use Rattle.shared_map.proofs.Maps.{map_new}
use Rattle.shared_map.proofs.shared_map.SharedMap.new.Goals as goal

pub returns : goal.returns
returns g c = map_new (all_entries c.new.result.items) (ap all_entries c.new.ensures.items)
