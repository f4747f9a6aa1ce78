-- What those so far and those that are left make is what all make, the way to the last one is known,
-- and those so far keep the rules.
use Rattle.std.proofs.Common.{◌≡◌, ◌-◌, ◌++◌, All, map, length, drop, take}
use Rattle.filed_writing.specs.{Blocks.IsRightHere, Drafts.comes_of, Layout.{all_come, next_after_all, nodes_of}, Trails.IsTrail}
use Rattle.filed_writing.proofs.revision.Revision.origins.Given as goal

abbrev pub invariant-loop-node : goal.invariant-loop-node
invariant-loop-node l =
    (map comes_of l.origins.items ++ all_come l.self (drop (length l.origins.items) (nodes_of l.self)) l.next
    ≡ all_come l.self (nodes_of l.self) l.fn.next)
    × (next_after_all l.self (drop (length l.origins.items) (nodes_of l.self)) l.next
    ≡ next_after_all l.self (nodes_of l.self) l.fn.next)
    × IsTrail l.self l.trail
    × All (IsRightHere l.self) (take (length l.origins.items) (nodes_of l.self))

abbrev pub decreases-loop-node : goal.decreases-loop-node
decreases-loop-node l = length (nodes_of l.self) - length l.origins.items
