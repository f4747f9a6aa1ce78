-- What the writer gives.
use Rattle.std.specs.Prelude.{◌≡◌, Option, Some}
use Rattle.fsfs_nodes.specs.declared.current.NextIds.{NextIds}
use Rattle.filed_writing.specs.{Blocks.{IsRightBlock, SourcesAreEarlier}, Layout.{IsLaidOut, rows_here}, declared.revision.Revision.Revision}
use Rattle.filed_writing.specs.declared.writing.Written.{Written}

-- the file of a revision that keeps the rules, by the ids that come next before it, with its table
pub record IsWritten (r : Revision) (ids : Option NextIds) (made : Written) : Type 0 where
  pub laid : IsLaidOut r ids made.file.items made.ids
  pub rows : rows_here r ids ≡ Some made.table.placed.items
  pub right : IsRightBlock r
  pub earlier : SourcesAreEarlier r
