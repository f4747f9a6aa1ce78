-- The tree of a node: what the paths of its entries' names lead to.
use Rattle.std.specs.{Prelude.{[], ◌∷◌, Option, option_and_then, option_map}, Arc.arc_value}
use Rattle.svnpath.specs.Paths.{PathValue}
use Rattle.repo_api.specs.{Trees.Tree, declared.entry.Entry.Entry, declared.entry.Mark.TheVariants.Made}
use Rattle.noderevs.specs.{Nodes.{Look, kid_at}, declared.node_rev.NodeId.NodeId, declared.node_rev.NodeRev.NodeRev}

-- the id that a path leads to
abbrev pub find_id : Look → PathValue → Option NodeId → Option NodeId
find_id look [] o = o
find_id look (name ∷ path) o = find_id look path (kid_at look o name)

-- what a node shows: its `last` mark is of the revision that made it, at its own path
abbrev pub shared_entry : NodeId → NodeRev → Entry
shared_entry id node =
    record {
      content = arc_value node.content;
      properties = arc_value node.properties;
      own = Made node.own.rev node.own.path;
      last = Made id.rev node.path;
    }

abbrev pub entry_at : Look → NodeId → Option Entry
entry_at look id = option_map (shared_entry id) (look id)

-- the flat tree of a node, of which there may be none
abbrev pub shared_tree : Look → Option NodeId → Tree
shared_tree look o path = option_and_then (entry_at look) (find_id look path o)
