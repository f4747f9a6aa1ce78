use Rattle.std.proofs.Common.{[], sym, subst}
use Rattle.std.specs.{List.Sorted.IsStrictlySortedBy, Map.keys_of}
use Rattle.svnpath.specs.Paths.{path_cmp}
use Rattle.revision_data.proofs.change_list.ChangeList.new.Goals as goal

none_sorted : IsStrictlySortedBy path_cmp []
unfolding IsStrictlySortedBy
none_sorted = tt

pub invariant_of-result : goal.invariant_of-result
invariant_of-result c =
    subst (λ changes. IsStrictlySortedBy path_cmp (keys_of changes)) (sym c.new.ensures.items) none_sorted
