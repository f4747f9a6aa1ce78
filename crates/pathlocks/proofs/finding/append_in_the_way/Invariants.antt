use Rattle.std.proofs.Common.{◌++◌, map}
use Rattle.std.specs.{List.filter, Map.Iter.deref_pair, Prelude.option_copied}
use Rattle.repo_api.specs.Locking.{is_reached}
use Rattle.pathlocks.proofs.Ways.{Finds}
use Rattle.pathlocks.proofs.finding.append_in_the_way.Given as goal

abbrev pub invariant-loop-path : goal.invariant-loop-path
invariant-loop-path l =
    Finds (map deref_pair l.found.items) (option_copied l.top) l.path-iterator l.locks.entries
    (map deref_pair l.fn.found.items ++ filter (λ e. is_reached l.fn.changes.entries e.0) l.fn.locks.entries)
