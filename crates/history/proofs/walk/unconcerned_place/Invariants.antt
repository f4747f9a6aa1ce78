-- What the log lists from the revision on is what it lists from the place on.
use Rattle.std.proofs.Common.{◌≡◌, ◌≤◌, ℕ, Bool}
use Rattle.repo_api.specs.Histories.{history_of}
use Rattle.traces.specs.Traces.{trace}
use Rattle.history.specs.Logs.{listed, place_at}
use Rattle.history.proofs.walk.unconcerned_place.Given as goal

abbrev pub invariant-loop-revision : goal.invariant-loop-revision
invariant-loop-revision g l = record {
  within : l.revision ≤ l.fn.at.revision;
  listed : (strict : Bool) (low : ℕ) → listed (history_of (g.R.Repository.content l.repository)) low (trace (history_of (g.R.Repository.content l.repository)) strict l.fn.at)
      ≡ listed (history_of (g.R.Repository.content l.repository)) low (trace (history_of (g.R.Repository.content l.repository)) strict (place_at l.revision l.fn.at.path));
}

abbrev pub decreases-loop-revision : goal.decreases-loop-revision
decreases-loop-revision g l = l.revision
