-- What of a revision can be written as lines.
use Rattle.std.specs.Prelude.{◌<◌, ◌^◌, List, Option, All, Contains, IfSome}
use Rattle.svnpath.specs.{Components.IsComponent, Paths.PathValue}
use Rattle.repo_api.specs.{Histories.Changed, declared.change.Source.Source}
use Rattle.noderevs.specs.{declared.node_rev.NodeId.NodeId, declared.node_rev.NodeRev.NodeRev}
use Rattle.fsfs_nodes.specs.{declared.current.NextIds.NextIds, Fits.PlaceFits}
use Rattle.fsfs_text.specs.Fits.{IdFits, RepresentationFits}
use Rattle.filed_trees.specs.{Tables.placed_in, declared.placed.Placed.Placed, declared.table.Table.Table}
use Rattle.filed_writing.specs.declared.revision.Revision.{Revision}

-- the path has names that a path may have, which have no line feed
abbrev pub IsNamed : PathValue → Type 0
IsNamed path = All IsComponent path

-- what is kept of a node revision: its numbers are within their types, and its path is one that a line
-- said
pub record PlacedFits (placed : Placed) : Type 0 where
  pub id : IdFits placed.id
  pub text : IfSome placed.text RepresentationFits
  pub properties : IfSome placed.properties RepresentationFits
  pub copyroot : PlaceFits placed.copyroot

-- all that tables keep
abbrev pub TablesFit : List Table → Type 0
TablesFit tables = (id : NodeId) → IfSome (placed_in tables id) PlacedFits

-- the ids that come next: their numbers are within their types
pub record NextFit (ids : NextIds) : Type 0 where
  pub node : ids.node < 2 ^ 128
  pub copy : ids.copy < 2 ^ 128

-- where a copy came from: the writer answers an error for a greater revision
pub record SourceFits (source : Source) : Type 0 where
  pub revision : source.revision < 2 ^ 32
  pub path : IsNamed source.path

-- a change of a path
pub record ChangeIsNamed (change : Changed) : Type 0 where
  pub path : IsNamed change.0
  pub source : IfSome change.1.source SourceFits

-- all changes
abbrev pub AreNamedChanges : List Changed → Type 0
AreNamedChanges changes = (change : Changed) → Contains changes change → ChangeIsNamed change

-- all nodes
abbrev pub AreNamedNodes : List NodeRev → Type 0
AreNamedNodes nodes = (node : NodeRev) → Contains nodes node → IsNamed node.path

-- all that a revision is made of
pub record RevisionFits (r : Revision) (ids : Option NextIds) : Type 0 where
  pub number : r.number < 2 ^ 32
  pub tables : TablesFit r.tables.now
  pub next : IfSome ids NextFit
  pub changes : AreNamedChanges r.changes.now
