-- What is found is right, and the trace goes on from here as from the place.
use Rattle.std.proofs.Common.{◌≡◌, ◌≤◌, ℕ, length, Option, Some}
use Rattle.svnpath.specs.Paths.{PathValue}
use Rattle.repo_api.specs.Histories.{history_of}
use Rattle.history.specs.{Gathered.{GoesOn, path_known}, Locations.location_back}
use Rattle.history.proofs.gathering.paths_back.Given as goal

abbrev pub invariant-loop-left : goal.invariant-loop-left
invariant-loop-left g l = record {
  inside : l.left ≤ length l.revisions;
  goes : GoesOn (history_of (g.R.Repository.content l.repository)) (Some l.place) l.last l.at;
  found : (n : ℕ) (o : Option PathValue) → path_known l.found.entries n ≡ Some o → o ≡ location_back (history_of (g.R.Repository.content l.repository)) l.place n;
}

abbrev pub decreases-loop-left : goal.decreases-loop-left
decreases-loop-left g l = l.left
