-- The trace goes on from here as from its beginning.
use Rattle.repo_api.specs.Histories.{history_of}
use Rattle.std.specs.Prelude.{Some}
use Rattle.history.specs.Gathered.{GoesOn}
use Rattle.history.proofs.locating.place_down.Given as goal

abbrev pub invariant-loop-at : goal.invariant-loop-at
invariant-loop-at g l = GoesOn (history_of (g.R.Repository.content l.repository)) (Some l.fn.place) l.revision (Some l.at)

abbrev pub decreases-loop-at : goal.decreases-loop-at
decreases-loop-at g l = l.at.revision
