use Rattle.std.proofs.Common.{arith, Some, None}
use Rattle.repo_api.specs.Histories.{history_of}
use Rattle.history.proofs.Along.{goes_end, goes_step, goes_through}
use Rattle.history.proofs.locating.place_down.Goals as goal

pub loop-at-preserved : goal.loop-at-preserved
loop-at-preserved g c =
    goes_through (history_of (g.R.Repository.content c.args.repository.now)) c.args.revision (Some c.args.place) (Some c.settled_above-found.result) (Some c.in-Some.next)
    (goes_through (history_of (g.R.Repository.content c.args.repository.now)) c.args.revision (Some c.args.place) (Some c.loop-at.at) (Some c.settled_above-found.result) c.loop-at.invariant c.settled_above-found.ensures.goes)
    (goes_step (history_of (g.R.Repository.content c.args.repository.now)) c.args.revision c.settled_above-found.result c.in-Some.next (rw c.in-Some.is at c.in_ok-next.ensures.trace)
    (omega (c.settled_above-found.ensures.above, c.if-found-revision.false, arith)))

pub returns-then-found-revision-clause-goes : goal.returns-then-found-revision-clause-goes
returns-then-found-revision-clause-goes g c =
    goes_through (history_of (g.R.Repository.content c.args.repository.now)) c.args.revision (Some c.args.place) (Some c.loop-at.at) (Some c.settled_above-found.result) c.loop-at.invariant c.settled_above-found.ensures.goes

pub returns-in_default-clause-goes : goal.returns-in_default-clause-goes
returns-in_default-clause-goes g c =
    goes_through (history_of (g.R.Repository.content c.args.repository.now)) c.args.revision (Some c.args.place) (Some c.settled_above-found.result) None
    (goes_through (history_of (g.R.Repository.content c.args.repository.now)) c.args.revision (Some c.args.place) (Some c.loop-at.at) (Some c.settled_above-found.result) c.loop-at.invariant c.settled_above-found.ensures.goes)
    (goes_end (history_of (g.R.Repository.content c.args.repository.now)) c.args.revision c.settled_above-found.result (rw c.in_default.is at c.in_ok-next.ensures.trace)
    (omega (c.settled_above-found.ensures.above, c.if-found-revision.false, arith)))
