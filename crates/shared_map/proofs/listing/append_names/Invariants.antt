use Rattle.std.proofs.Common.{◌≡◌, ◌++◌, take, map}
use Rattle.std.specs.{Map.keys_of, Map.Iter.deref}
use Rattle.shared_map.specs.Entries.{values}
use Rattle.shared_map.proofs.listing.append_names.Given as goal

abbrev pub invariant-loop-entry : goal.invariant-loop-entry
invariant-loop-entry g l =
    map deref l.list.items ≡ map deref l.fn.list.items ++ keys_of (values (take l.entry-index l.part))
