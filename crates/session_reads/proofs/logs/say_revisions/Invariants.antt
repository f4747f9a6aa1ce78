-- Those that are told and those that are to come are all.
use Rattle.std.proofs.Common.{length}
use Rattle.repo_api.specs.Histories.{history_of}
use Rattle.history.specs.Walks.{to_come}
use Rattle.machine.specs.Histories.{revision_told}
use Rattle.session_reads.proofs.Each.{Told}
use Rattle.session_reads.proofs.logs.say_revisions.Given as goal

abbrev pub invariant-loop-revision : goal.invariant-loop-revision
invariant-loop-revision g l =
    let c = g.R.Repository.content l.view in
    Told (revision_told c l.wants_changes) g.S.ReplySink.writes l.fn.out l.out
    (to_come (history_of c) l.fn.log) (to_come (history_of c) l.log)

abbrev pub decreases-loop-revision : goal.decreases-loop-revision
decreases-loop-revision g l = length (to_come (history_of (g.R.Repository.content l.view)) l.log)
