-- What is known of the way to a node.
use Rattle.std.specs.Prelude.{◌≡◌, ℕ, Option, Some, slice_get, take}
use Rattle.svnpath.specs.Paths.{PathValue}
use Rattle.noderevs.specs.{Held.{node_at, root_at}, Views.find_id, declared.node_rev.NodeId.NodeId}
use Rattle.filed_writing.specs.{Origins.predecessor_of, declared.revision.Revision.Revision, declared.trail.Trail.Trail, declared.way.Way.Way}

-- each id that a way keeps is the one at its depth of the path
abbrev pub Keeps : (PathValue → Option NodeId) → Way → Type 0
Keeps at way = (depth : ℕ) (id : Option NodeId) → slice_get way.ids.items depth ≡ Some id
    → id ≡ at (take depth way.path.now)

-- what the node at a path of the revision is made from
abbrev pub made_at : Revision → PathValue → Option NodeId
made_at r path = predecessor_of r.nodes.now r.changes.now r.number path

-- each id that is known is that of what the node at its depth of the path is made from
abbrev pub IsTrail : Revision → Trail → Type 0
IsTrail r trail = Keeps (made_at r) trail.way

-- the node at a path of the revision
abbrev pub here_at : Revision → PathValue → Option NodeId
here_at r path = find_id (node_at r.nodes.now) path (root_at r.nodes.now r.number)

-- each id that is known is that of the node at its depth of the path
abbrev pub IsWay : Revision → Way → Type 0
IsWay r way = Keeps (here_at r) way
