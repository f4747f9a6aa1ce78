-- The traces are those of the place.
use Rattle.repo_api.specs.Histories.{history_of}
use Rattle.history.specs.Meeting.{AreMeeting}
use Rattle.history.proofs.meeting.Meeting.go_down.Given as goal

abbrev pub invariant-loop : goal.invariant-loop
invariant-loop g l = AreMeeting (history_of (g.R.Repository.content l.repository)) l.place l.self
