-- What has to be known of the nodes and the changes of a revision for its file to say them. All of
-- it can be decided from the nodes in memory.
use Rattle.std.specs.{Prelude.{◌≡◌, ◌<◌, true, List, Option, Some, None, Contains, IfSome, is_some, if◌then◌else◌}, Arc.arc_value, Cmp.Lexicographic.slice_cmp}
use Rattle.std.specs.{List.list_all, List.Sorted.IsStrictlySortedBy, Map.keys_of, Ordering.nat_cmp}
use Rattle.svnpath.specs.Components.{IsRightPath}
use Rattle.repo_api.specs.{Histories.Changed, Properties.PropertyList, declared.entry.Mark.Mark, declared.entry.Mark.TheVariants.Made}
use Rattle.revision_data.specs.Found.{found}
use Rattle.noderevs.specs.{Nodes.mark_of, declared.node_rev.NodeRev.NodeRev}
use Rattle.fsfs_nodes.specs.Properties.{is_property}
use Rattle.filed_trees.specs.declared.placed.Placed.{Placed}
use Rattle.filed_writing.specs.{Layout.{made_from, nodes_of}, declared.revision.Revision.Revision}

-- a change is of a right path, and so is its source: paths in memory are right
pub record ChangeIsRight (change : Changed) : Type 0 where
  pub path : IsRightPath change.0
  pub source : IfSome change.1.source (λ source. IsRightPath source.path)

-- so are all changes
abbrev pub AreRightChanges : List Changed → Type 0
AreRightChanges changes = (change : Changed) → Contains changes change → ChangeIsRight change

-- Properties that are read again: each has a name of 1 to 255 bytes and a value that keeps the
-- limit of texts, which the judging of edits sees to; and they stand in the order of their names,
-- as those of a node in memory do.
pub record PropertiesFit (list : PropertyList) : Type 0 where
  pub each : list_all is_property list ≡ true
  pub rise : IsStrictlySortedBy (slice_cmp nat_cmp) (keys_of list)

-- the own last change of a node that was made from another, or from none
abbrev pub own_from : Mark → Option (NodeRev × Placed) → Mark
own_from here None = here
own_from here (Some before) = mark_of before.0.own

-- it was made here where the changes list the node's path or it was made from none, and else it is
-- that of what the node was made from
abbrev pub right_own : Revision → NodeRev → Mark
right_own r node =
    if is_some (found r.changes.now node.path) then Made r.number node.path
    else own_from (Made r.number node.path) (made_from r node)

-- a node of the revision: its properties fit, and its own mark is the right one
pub record IsRightHere (r : Revision) (node : NodeRev) : Type 0 where
  pub properties : PropertiesFit (arc_value node.properties)
  pub own : mark_of node.own ≡ right_own r node

-- the nodes of a revision and its changes
pub record IsRightBlock (r : Revision) : Type 0 where
  pub nodes : (node : NodeRev) → Contains (nodes_of r) node → IsRightHere r node
  pub changes : AreRightChanges r.changes.now

-- each copy is of an earlier revision: an edit can name no other, since there is none yet
abbrev pub SourcesAreEarlier : Revision → Type 0
SourcesAreEarlier r = (change : Changed) → Contains r.changes.now change
    → IfSome change.1.source (λ source. source.revision < r.number)
