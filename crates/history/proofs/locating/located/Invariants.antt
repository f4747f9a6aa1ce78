-- The paths in the revisions so far.
use Rattle.std.proofs.Common.{◌≡◌, take}
use Rattle.std.specs.List.{filter_map}
use Rattle.history.specs.Locations.{located_in}
use Rattle.history.proofs.locating.located.Given as goal

abbrev pub invariant-loop-revision : goal.invariant-loop-revision
invariant-loop-revision g l =
    l.found.items
    ≡ filter_map (located_in (g.R.Repository.content l.repository) l.place)
    (take l.revision-index l.revisions)
