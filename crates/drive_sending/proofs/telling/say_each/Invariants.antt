-- The changes so far are written.
use Rattle.std.proofs.Common.{drop, map}
use Rattle.drive_visits.specs.Visits.{kind_if}
use Rattle.drive_sending.specs.Commands.{property_command}
use Rattle.drive_sending.proofs.Written.{Going}
use Rattle.drive_sending.proofs.telling.say_each.Given as goal

abbrev pub invariant-loop-change : goal.invariant-loop-change
invariant-loop-change g l =
    Going g.S.ReplySink.writes l.fn.out l.out (map (property_command (kind_if l.is_directory) l.token) l.changes) (map (property_command (kind_if l.is_directory) l.token) (drop l.change-index l.changes))
