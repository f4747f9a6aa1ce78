-- What is to come is what was.
use Rattle.std.proofs.Common.{◌≡◌}
use Rattle.repo_api.specs.Histories.{history_of}
use Rattle.file_histories.specs.Segments.{left_from, to_come}
use Rattle.file_histories.proofs.segments.Segments.next.Given as goal

abbrev pub invariant-loop-place : goal.invariant-loop-place
invariant-loop-place g l =
    to_come (history_of (g.R.Repository.content l.repository)) l.fn.self ≡ to_come (history_of (g.R.Repository.content l.repository)) l.self

abbrev pub decreases-loop-place : goal.decreases-loop-place
decreases-loop-place g l = left_from l.self.above l.self.at
