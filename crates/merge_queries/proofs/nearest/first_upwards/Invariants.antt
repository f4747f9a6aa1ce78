-- What is found from the path on is what is found from the start on.
use Rattle.std.proofs.Common.{◌≡◌, length}
use Rattle.std.specs.List.{find}
use Rattle.repo_api.specs.States.{tree_at}
use Rattle.merge_queries.specs.{Queries.has_value, Walks.from_there}
use Rattle.merge_queries.proofs.nearest.first_upwards.Given as goal

abbrev pub invariant-loop-path : goal.invariant-loop-path
invariant-loop-path g l =
    let m = tree_at (g.R.Repository.content l.repository) l.revision in
    find (has_value m) (from_there l.path) ≡ find (has_value m) (from_there l.fn.start)

abbrev pub decreases-loop-path : goal.decreases-loop-path
decreases-loop-path g l = length (from_there l.path)
