-- The places so far, and those that are left, are all.
use Rattle.std.proofs.Common.{◌≡◌, ◌++◌, Some, length}
use Rattle.repo_api.specs.Histories.{history_of}
use Rattle.file_histories.specs.FileRevisions.{down_to, listed_places}
use Rattle.file_histories.proofs.revisions.places_down.Given as goal

abbrev pub invariant-loop-places : goal.invariant-loop-places
invariant-loop-places g l =
    let h = history_of (g.R.Repository.content l.repository) in
    l.places.items ++ down_to l.low (listed_places h l.left) ≡ down_to l.low (listed_places h (Some l.fn.start))

abbrev pub decreases-loop-places : goal.decreases-loop-places
decreases-loop-places g l = length (listed_places (history_of (g.R.Repository.content l.repository)) l.left)
