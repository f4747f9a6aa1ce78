-- Where all beside the names beneath the places that the walk has come to is of one line, so it is of the two that it began at.
use Rattle.std.proofs.Common.{◌+◌}
use Rattle.repo_api.specs.Histories.{history_of}
use Rattle.history.specs.Lines.{AreOneLineBeside}
use Rattle.history.proofs.beneath.are_one_line_beside.Given as goal

abbrev pub invariant-loop-alloc : goal.invariant-loop-alloc
invariant-loop-alloc g l =
    AreOneLineBeside l.names.keys (history_of (g.R.Repository.content l.repository)) l.earlier l.later
    → AreOneLineBeside l.names.keys (history_of (g.R.Repository.content l.repository)) l.fn.older l.fn.newer

abbrev pub decreases-loop-alloc : goal.decreases-loop-alloc
decreases-loop-alloc g l = l.earlier.revision + l.later.revision
