-- The node revisions so far, behind which the others come.
use Rattle.std.proofs.Common.{[], map, reverse, drop}
use Rattle.filed_writing.specs.{Drafts.{comes_of, copy_from}, Layout.{nodes_of, pieces_of}}
use Rattle.filed_writing.proofs.Behind.{IsSoFar}
use Rattle.filed_writing.proofs.revision.Revision.write_nodes.Given as goal

abbrev pub invariant-loop-place : goal.invariant-loop-place
invariant-loop-place l =
    IsSoFar l.self (drop l.place (nodes_of l.self)) (map comes_of (drop l.place l.origins)) (reverse (map copy_from l.roots.items))
    (pieces_of l.self [] (nodes_of l.self) (map comes_of l.origins) (reverse (map copy_from l.fn.roots.items))) l.written.items l.placed.items l.out.items
