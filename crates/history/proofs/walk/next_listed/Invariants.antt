-- What the log lists from the place on is what it lists from the start on.
use Rattle.std.proofs.Common.{◌≡◌, ℕ, Option, Some, None, suc}
use Rattle.repo_api.specs.Histories.{history_of}
use Rattle.traces.specs.{Traces.traced, declared.place.Place.Place}
use Rattle.history.specs.Logs.{listed}
use Rattle.history.proofs.walk.next_listed.Given as goal

abbrev pub invariant-loop-place : goal.invariant-loop-place
invariant-loop-place g l =
    listed (history_of (g.R.Repository.content l.repository)) l.low (traced (history_of (g.R.Repository.content l.repository)) l.strict l.place)
    ≡ listed (history_of (g.R.Repository.content l.repository)) l.low (traced (history_of (g.R.Repository.content l.repository)) l.strict l.fn.start)

abbrev pub left : Option Place → ℕ
left None = 0
left (Some p) = suc p.revision

abbrev pub decreases-loop-place : goal.decreases-loop-place
decreases-loop-place g l = left l.place
