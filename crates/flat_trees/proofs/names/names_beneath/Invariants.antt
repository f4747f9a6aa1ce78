-- Those that are found and those of the paths that are left are all.
use Rattle.std.proofs.Common.{◌≡◌, ◌++◌, map}
use Rattle.std.specs.{Map.keys_of, Map.Iter.deref}
use Rattle.repo_api.specs.Readings.{names_among}
use Rattle.flat_trees.proofs.names.names_beneath.Given as goal

abbrev pub invariant-loop-key : goal.invariant-loop-key
invariant-loop-key g l =
    map deref l.names.items ++ names_among l.path (keys_of l.key-iterator)
    ≡ names_among l.path (keys_of l.entries.entries)
