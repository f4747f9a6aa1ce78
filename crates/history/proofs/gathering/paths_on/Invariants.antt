-- Traces of the place's path are gone along together.
use Rattle.std.proofs.Common.{◌≤◌, length}
use Rattle.repo_api.specs.Histories.{history_of}
use Rattle.history.specs.Meeting.{AreMeeting}
use Rattle.history.proofs.gathering.paths_on.Given as goal

abbrev pub invariant-loop-left : goal.invariant-loop-left
invariant-loop-left g l = record {
  inside : l.left ≤ length l.revisions;
  meeting : AreMeeting (history_of (g.R.Repository.content l.repository)) l.place l.meeting;
}

abbrev pub decreases-loop-left : goal.decreases-loop-left
decreases-loop-left g l = l.left
