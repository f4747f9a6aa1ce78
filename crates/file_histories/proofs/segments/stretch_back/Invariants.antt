-- The stretch goes on from here as from the place.
use Rattle.std.proofs.Common.{◌≡◌, ◌≤◌, ℕ, false}
use Rattle.repo_api.specs.Histories.{history_of}
use Rattle.traces.specs.Traces.{trace}
use Rattle.file_histories.specs.Segments.{segments_of}
use Rattle.file_histories.proofs.segments.stretch_back.Given as goal

abbrev pub invariant-loop-at : goal.invariant-loop-at
invariant-loop-at g l = record {
  within : l.at.revision ≤ l.fn.place.revision;
  same : (last : ℕ) → segments_of (history_of (g.R.Repository.content l.repository)) last (trace (history_of (g.R.Repository.content l.repository)) false l.fn.place)
      ≡ segments_of (history_of (g.R.Repository.content l.repository)) last (trace (history_of (g.R.Repository.content l.repository)) false l.at);
}

abbrev pub decreases-loop-at : goal.decreases-loop-at
decreases-loop-at g l = l.at.revision
