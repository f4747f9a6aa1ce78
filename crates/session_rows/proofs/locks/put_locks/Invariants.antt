use Rattle.std.proofs.Common.{◌≡◌}
use Rattle.session_rows.proofs.locks.put_locks.Given as goal

abbrev pub invariant-loop-n : goal.invariant-loop-n
invariant-loop-n g l = (g.R.Repository.content l.repository).revisions
    ≡ (g.R.Repository.content l.fn.repository).revisions
