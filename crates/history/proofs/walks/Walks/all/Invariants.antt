-- Those that are found and those that are to come are all.
use Rattle.std.proofs.Common.{◌≡◌, ◌++◌, length}
use Rattle.repo_api.specs.Histories.{history_of}
use Rattle.history.specs.Walks.{of_walks}
use Rattle.history.proofs.walks.Walks.all.Given as goal

abbrev pub invariant-loop-found : goal.invariant-loop-found
invariant-loop-found g l =
    l.found.items ++ of_walks (history_of (g.R.Repository.content l.repository)) l.walks
    ≡ of_walks (history_of (g.R.Repository.content l.repository)) l.fn.self

abbrev pub decreases-loop-found : goal.decreases-loop-found
decreases-loop-found g l = length (of_walks (history_of (g.R.Repository.content l.repository)) l.walks)
