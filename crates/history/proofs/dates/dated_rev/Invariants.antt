-- None of the revisions that were passed over is dated up to the date.
use Rattle.std.proofs.Common.{◌≡◌}
use Rattle.repo_api.specs.{Dates.is_dated, States.youngest}
use Rattle.history.specs.Dates.{greatest}
use Rattle.history.proofs.dates.dated_rev.Given as goal

abbrev pub invariant-loop-revision : goal.invariant-loop-revision
invariant-loop-revision g l =
    greatest (is_dated (g.R.Repository.content l.repository) l.date) l.revision
    ≡ greatest (is_dated (g.R.Repository.content l.repository) l.date)
    (youngest (g.R.Repository.content l.repository))

abbrev pub decreases-loop-revision : goal.decreases-loop-revision
decreases-loop-revision g l = l.revision
