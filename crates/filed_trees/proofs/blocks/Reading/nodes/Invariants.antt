use Rattle.std.proofs.Common.{◌≡◌, ◌<◌, length, map, take}
use Rattle.std.specs.Prelude.{All, slice_get}
use Rattle.noderevs.specs.{declared.node_rev.NodeId.NodeId, Held.node_at}
use Rattle.filed_trees.specs.{Pieces.RevisionBytes, Tables.{IsPlaced, placed_of}, Comparing.{AreFor, IsOfLast, revision_in, tables_of, HaveHeights}}
use Rattle.filed_trees.specs.Readable.{IsReadable, IsTabled}
use Rattle.filed_trees.proofs.blocks.Reading.nodes.Given as goal

abbrev pub invariant-loop-row : goal.invariant-loop-row
invariant-loop-row l =
    (length l.nodes.items ≡ l.row-index)
    × (((files : RevisionBytes) → AreFor files l.self.places l.self.changes.now
    → All (λ row. IsOfLast files (revision_in l.self.places) row.now) l.rows
    → (id : NodeId) → id.rev ≡ revision_in l.self.places → id.place < l.row-index
    → IsPlaced files (tables_of l.self.places) id (slice_get l.nodes.items id.place)
    (slice_get (map (λ row. placed_of row.now.node) l.rows) id.place))
    × (((files : RevisionBytes) → AreFor files l.self.places l.self.changes.now
    → All (λ row. IsOfLast files (revision_in l.self.places) row.now) l.rows
    → All (λ row. IsReadable files l.self.places.tables.now (IsTabled (tables_of l.self.places)) row.now)
    (take l.row-index l.rows))
    × HaveHeights (node_at l.self.places.nodes.now) (revision_in l.self.places) l.nodes.items))
