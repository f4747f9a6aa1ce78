-- Where the walk has come to is of one line where the two places are.
use Rattle.std.proofs.Common.{◌≡◌, ◌+◌}
use Rattle.repo_api.specs.Histories.{history_of}
use Rattle.history.specs.Lines.{is_one_line}
use Rattle.history.proofs.lines.is_one_line.Given as goal

abbrev pub invariant-loop-alloc : goal.invariant-loop-alloc
invariant-loop-alloc g l =
    is_one_line (history_of (g.R.Repository.content l.repository)) l.earlier l.later
    ≡ is_one_line (history_of (g.R.Repository.content l.repository)) l.fn.older l.fn.newer

abbrev pub decreases-loop-alloc : goal.decreases-loop-alloc
decreases-loop-alloc g l = l.earlier.revision + l.later.revision
