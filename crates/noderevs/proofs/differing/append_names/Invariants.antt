use Rattle.std.proofs.Common.{◌≡◌, ◌++◌, map, take}
use Rattle.std.specs.{Map.keys_of, Map.Iter.deref}
use Rattle.noderevs.proofs.differing.append_names.Given as goal

abbrev pub invariant-loop-entry : goal.invariant-loop-entry
invariant-loop-entry l =
    map deref l.names.items ≡ map deref l.fn.names.items ++ keys_of (map deref (take l.entry-index l.entries))
