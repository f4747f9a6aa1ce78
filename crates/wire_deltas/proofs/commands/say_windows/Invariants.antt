-- The windows so far are written.
use Rattle.wire_replies.specs.Replies.{print}
use Rattle.wire_deltas.proofs.Written.{chunks}
use Rattle.wire_deltas.proofs.commands.say_windows.Given as goal

abbrev pub invariant-loop-place : goal.invariant-loop-place
invariant-loop-place g l = g.S.ReplySink.writes l.fn.out l.out (print (chunks l.token l.delta.before.now l.delta.text.now l.place))
