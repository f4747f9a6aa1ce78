use Rattle.std.proofs.Common.{◌≡◌, take, map}
use Rattle.std.specs.{Map.keys_of, Map.Iter.deref}
use Rattle.shared_map.specs.Entries.{all_entries}
use Rattle.shared_map.proofs.listing.names_of.Given as goal

abbrev pub invariant-loop-part : goal.invariant-loop-part
invariant-loop-part g l = map deref l.list.items ≡ keys_of (all_entries (take l.part-index l.parts))
