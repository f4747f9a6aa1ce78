-- The changes so far are written.
use Rattle.std.proofs.Common.{drop, map}
use Rattle.replays.specs.Commands.{property_command}
use Rattle.replays.proofs.Written.{Going}
use Rattle.replays.proofs.entries.say_changes.Given as goal

abbrev pub invariant-loop-change : goal.invariant-loop-change
invariant-loop-change g l =
    Going g.S.ReplySink.writes l.fn.out l.out (map (property_command l.is_directory l.token) l.changes) (map (property_command l.is_directory l.token) (drop l.change-index l.changes))
