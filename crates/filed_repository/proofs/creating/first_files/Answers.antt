use Rattle.std.proofs.Common.{sym, subst}
use Rattle.std.specs.{List.Sorted.IsStrictlySortedBy, Map.keys_of}
use Rattle.svnpath.specs.Paths.{path_cmp}
use Rattle.filed_repository.proofs.InOrder.{changes_in_order}
use Rattle.filed_repository.proofs.creating.first_files.Goals as goal

pub write_revision-requires : goal.write_revision-requires
write_revision-requires c =
    subst (λ es. IsStrictlySortedBy path_cmp (keys_of es)) (sym c.changes-changes.ensures) (changes_in_order _)
