use Rattle.std.specs.List.Sorted.{IsStrictlySortedBy}
use Rattle.fsfs_rows.proofs.writing.added.Goals as goal

pub write_revision-requires : goal.write_revision-requires
unfolding IsStrictlySortedBy
write_revision-requires c = (tt, tt)
