-- Those so far are those of the places from here on.
use Rattle.std.proofs.Common.{◌≡◌, ◌+◌, map, length, drop, reverse}
use Rattle.filed_writing.specs.{Drafts.{comes_of, copy_from}, Layout.{copies_of, nodes_of}, Trails.IsWay}
use Rattle.filed_writing.proofs.revision.Revision.copy_roots.Given as goal

abbrev pub invariant-loop-place : goal.invariant-loop-place
invariant-loop-place l =
    (length l.roots.items + l.place ≡ length l.origins)
    × (reverse (map copy_from l.roots.items)
    ≡ copies_of l.self l.place (drop l.place (nodes_of l.self)) (map comes_of (drop l.place l.origins)))
    × IsWay l.self l.way
