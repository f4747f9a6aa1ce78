-- Where a node revision is in the files, as it is kept.
use Rattle.std.specs.{Prelude.{◌==◌, ℕ, Option, Some, None, if◌then◌else◌}, Arc.arc_value}
use Rattle.fsfs_text.specs.{declared.id.FileId.FileId, declared.id.IdPart.IdPart, declared.place.Place.Place}
use Rattle.fsfs_text.specs.declared.representation.Representation.{Representation}
use Rattle.filed_trees.specs.{declared.placed.Described.Described, declared.placed.Kept.Kept, declared.placed.SmallId.SmallId}
use Rattle.filed_trees.specs.{declared.placed.SmallLine.SmallLine, declared.placed.SmallNode.SmallNode, declared.placed.SmallPart.SmallPart}
use Rattle.filed_trees.specs.declared.placed.Whole.{Whole}
use Rattle.filed_trees.specs.declared.placed.Kept.TheVariants as kinds

-- where a node revision is in the files, and what files alone have of it
pub record PlacedValue : Type 0 where
  pub id : FileId
  pub count : ℕ
  pub text : Option Representation
  pub properties : Option Representation
  pub copyroot : Place

-- the part of an id that small numbers stand for
abbrev pub unpacked_part : SmallPart → IdPart
unpacked_part part = record {
  number = part.number;
  revision = if part.revision == 4294967295 then None else Some part.revision;
}

abbrev pub unpacked_id : SmallId → FileId
unpacked_id id = record {
  node = unpacked_part id.node;
  copy = unpacked_part id.copy;
  revision = id.revision;
  offset = id.offset;
}

-- the line that small numbers stand for, if any
abbrev pub line_in : SmallLine → Option Representation
line_in line = if line.revision == 4294967295 then None else Some (record {
  revision = line.revision;
  offset = line.offset;
  length = line.length;
  size = line.size;
  digest = line.digest;
})

-- what small numbers stand for, with the rest
abbrev pub small_value : SmallNode → Option Representation → Place → PlacedValue
small_value node properties copyroot = record {
  id = unpacked_id node.id;
  count = node.count;
  text = line_in node.text;
  properties = properties;
  copyroot = copyroot;
}

abbrev pub described_value : SmallNode → Described → PlacedValue
described_value node described = small_value node (Some described.properties) (arc_value described.copyroot)

abbrev pub whole_value : Whole → PlacedValue
whole_value whole = record {
  id = whole.id;
  count = whole.count;
  text = whole.text;
  properties = whole.properties;
  copyroot = arc_value whole.copyroot;
}

abbrev pub placed_value : Kept → PlacedValue
placed_value (kinds.Plain node copyroot) = small_value node None (arc_value copyroot)
placed_value (kinds.Described node described) = described_value node (arc_value described)
placed_value (kinds.Large whole) = whole_value (arc_value whole)
