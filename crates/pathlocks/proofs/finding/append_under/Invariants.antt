use Rattle.std.specs.{List.filter, Map.Iter.deref_pair}
use Rattle.svnpath.specs.Paths.{is_at_or_under}
use Rattle.std.proofs.Common.{◌≡◌, ◌++◌, map}
use Rattle.pathlocks.proofs.Runs.{Ends}
use Rattle.pathlocks.proofs.finding.append_under.Given as goal

abbrev pub invariant-loop-key : goal.invariant-loop-key
invariant-loop-key l =
    (map deref_pair l.found.items ++ filter (λ e. is_at_or_under e.0 l.path) l.key-iterator ≡ map deref_pair l.fn.found.items ++ filter (λ e. is_at_or_under e.0 l.path) l.fn.locks.entries)
    × Ends l.path l.key-iterator
