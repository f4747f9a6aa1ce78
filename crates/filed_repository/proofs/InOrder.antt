-- The changes of a revision stand in the order of their paths.
use Rattle.std.proofs.Common.{Option, Some, None}
use Rattle.std.specs.{List.Sorted.IsStrictlySortedBy, Map.keys_of}
use Rattle.svnpath.specs.Paths.{path_cmp}
use Rattle.repo_api.specs.{Histories.changes_in, States.Revision}
use Rattle.block_rules.proofs.Ordered.{in_order}

pub changes_in_order : (revision : Option Revision) → IsStrictlySortedBy path_cmp (keys_of (changes_in revision))
unfolding IsStrictlySortedBy
changes_in_order None = tt
changes_in_order (Some revision) = in_order revision.changes
