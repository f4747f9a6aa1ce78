use Rattle.std.specs.List.Sorted.{IsStrictlySortedBy}
use Rattle.fsfs_rows.proofs.writing.revision_0_is_the_same_in_both_formats.Goals as goal

pub write_revision-requires : goal.write_revision-requires
unfolding IsStrictlySortedBy
write_revision-requires g c = tt
