use Rattle.std.proofs.Common.{◌≡◌, take, Some}
use Rattle.std.specs.Prelude.{IsSome}
use Rattle.noderevs.specs.{Held.node_at, Views.{find_id, shared_tree}}
use Rattle.shared_revisions.proofs.Marks.{IsNoneLater}
use Rattle.shared_revisions.proofs.settling.newest_mark.Given as goal

-- down to the part of the path that was walked
abbrev pub invariant-loop-name : goal.invariant-loop-name
invariant-loop-name l =
    (find_id (node_at l.nodes) (take l.name-index l.path) l.fn.root ≡ Some l.at)
    × (IsSome (node_at l.nodes l.at))
    × (IsNoneLater (shared_tree (node_at l.nodes) l.fn.root) l.path l.name-index l.newest)
    × (l.last ≡ l.at.rev)
