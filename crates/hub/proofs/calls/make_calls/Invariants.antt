use Rattle.std.proofs.Common.{take}
use Rattle.hub.specs.Calls.{CallRun}
use Rattle.hub.proofs.calls.make_calls.Given as goal

abbrev pub invariant-loop-call : goal.invariant-loop-call
invariant-loop-call g l = CallRun l.fn.hub (take l.call-index l.calls) l.outcomes.items l.hub
