use Rattle.std.proofs.Common.{arith}
use Rattle.repo_api.specs.Histories.{history_of}
use Rattle.history.proofs.Together.{trace_steps}
use Rattle.history.proofs.meeting.Meeting.go_down.Goals as goal

pub go_on-requires-clause-trace : goal.go_on-requires-clause-trace
go_on-requires-clause-trace g c =
    let h = history_of (g.R.Repository.content c.args.repository.now) in
    trace_steps h c.args.place.now c.in-Some.begun c.in-Some.at c.in_ok-next.next c.in_ok-next.ensures.trace
    (omega (arith, c.requires.above, c.in-Some.ensures.above)) (c.in-Some.ensures.trace h c.args.place.now c.loop.invariant)

pub go_on-requires-clause-meeting : goal.go_on-requires-clause-meeting
go_on-requires-clause-meeting g c =
    c.take_above.ensures.meeting (history_of (g.R.Repository.content c.args.repository.now)) c.args.place.now c.loop.invariant

pub returns-in_default : goal.returns-in_default
returns-in_default g c =
    c.take_above.ensures.meeting (history_of (g.R.Repository.content c.args.repository.now)) c.args.place.now c.loop.invariant

pub loop-preserved : goal.loop-preserved
loop-preserved g c = c.in_ok-go_on.ensures
