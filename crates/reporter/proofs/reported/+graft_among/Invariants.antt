use Rattle.std.proofs.Common.{◌≤◌}
use Rattle.repo_api.specs.States.{trees_in}
use Rattle.reporter.proofs.Deciding.{AreLater}
use Rattle.reporter.proofs.reported.+graft_among.Given as goal

abbrev pub decreases-graft_among : goal.decreases-graft_among
decreases-graft_among g l = l.first.count

-- those behind so many say nothing of the path
abbrev pub invariant-loop-place : goal.invariant-loop-place
invariant-loop-place g l =
    (l.count ≤ l.first.count)
    × AreLater (trees_in (g.R.Repository.content l.view).revisions) l.top l.grafts l.first.count l.path l.count

abbrev pub decreases-loop-place : goal.decreases-loop-place
decreases-loop-place g l = l.count
