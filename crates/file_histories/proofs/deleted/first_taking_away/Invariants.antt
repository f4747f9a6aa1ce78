-- What is found from the revision on is what is found from the first on.
use Rattle.std.proofs.Common.{◌≡◌, ◌-◌}
use Rattle.std.specs.List.{find}
use Rattle.repo_api.specs.Histories.{history_of}
use Rattle.file_histories.specs.Deleted.{is_taken_away, revisions_after}
use Rattle.file_histories.proofs.deleted.first_taking_away.Given as goal

abbrev pub invariant-loop-revision : goal.invariant-loop-revision
invariant-loop-revision g l =
    find (is_taken_away (history_of (g.R.Repository.content l.repository)) l.path) (revisions_after l.low (l.high - l.low))
    ≡ find (is_taken_away (history_of (g.R.Repository.content l.repository)) l.path) (revisions_after l.revision (l.high - l.revision))

abbrev pub decreases-loop-revision : goal.decreases-loop-revision
decreases-loop-revision g l = l.high - l.revision
