-- Those that are told and those that are to come are all.
use Rattle.std.proofs.Common.{length}
use Rattle.repo_api.specs.Histories.{history_of}
use Rattle.file_histories.specs.Segments.{to_come}
use Rattle.machine.specs.Histories.{segment_told}
use Rattle.session_reads.proofs.Each.{Told}
use Rattle.session_reads.proofs.segments.say_each.Given as goal

abbrev pub invariant-loop-segment : goal.invariant-loop-segment
invariant-loop-segment g l =
    let h = history_of (g.R.Repository.content l.view) in
    Told segment_told g.S.ReplySink.writes l.fn.out l.out (to_come h l.fn.segments) (to_come h l.segments)

abbrev pub decreases-loop-segment : goal.decreases-loop-segment
decreases-loop-segment g l = length (to_come (history_of (g.R.Repository.content l.view)) l.segments)
