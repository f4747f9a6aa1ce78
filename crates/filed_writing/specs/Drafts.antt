-- Where node revisions come from, as the writer holds it.
use Rattle.std.specs.{Prelude.{ℕ, List, Vec, option_map}, declared.alloc.Global.Global}
use Rattle.repo_api.specs.declared.change.Source.{Source}
use Rattle.noderevs.specs.declared.node_rev.NodeRev.{NodeRev}
use Rattle.fsfs_text.specs.declared.id.IdPart.{IdPart}
use Rattle.filed_trees.specs.declared.placed.Placed.{Placed}
use Rattle.filed_writing.specs.{Pieces.{Comes, Copy}, declared.copies.CopyRoot.CopyRoot, declared.copies.NewCopy.NewCopy, declared.copies.Origin.Origin}
use Rattle.filed_writing.specs.declared.copies.Predecessor.{Predecessor}

abbrev pub came_from : Predecessor → NodeRev × Placed
came_from before = (before.node.now, before.placed.now)

abbrev pub copied_from : NewCopy → IdPart × Source
copied_from copy = (copy.id, copy.source.now)

abbrev pub comes_of : Origin → Comes
comes_of origin = record {
  node = origin.node;
  predecessor = option_map came_from origin.predecessor;
  copy = option_map copied_from origin.copy;
}

abbrev pub copy_from : CopyRoot → Copy
copy_from root = record { id = root.id; place = root.place }

abbrev pub items : Vec ℕ Global → List ℕ
items bytes = bytes.items
