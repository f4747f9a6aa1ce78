-- What the revisions so far did is told.
use Rattle.machine.specs.Replays.{revision_replayed}
use Rattle.session_replays.proofs.InTurn.{InTurn}
use Rattle.session_replays.proofs.ranges.say_each.Given as goal

abbrev pub invariant-loop-revision : goal.invariant-loop-revision
invariant-loop-revision g l =
    InTurn (revision_replayed (g.R.Repository.content l.view) l.ask) g.S.ReplySink.writes l.fn.out l.out l.range.start l.revision l.range.end
