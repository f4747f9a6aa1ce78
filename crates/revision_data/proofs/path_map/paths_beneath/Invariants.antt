use Rattle.std.proofs.Common.{◌≡◌, ◌++◌}
use Rattle.std.specs.List.{filter}
use Rattle.revision_data.proofs.Beneath.{behind, Ends, under}
use Rattle.revision_data.proofs.path_map.paths_beneath.Given as goal

abbrev pub invariant-loop-key : goal.invariant-loop-key
invariant-loop-key g l =
    (l.list.items ++ under l.path l.key-iterator ≡ under l.fn.path (filter (λ e. behind l.fn.path e.0) l.fn.entries.entries))
    × Ends l.path l.key-iterator
