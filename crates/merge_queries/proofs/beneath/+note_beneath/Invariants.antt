-- What is at and beneath the names so far is noted.
use Rattle.std.proofs.Common.{◌-◌, length, take}
use Rattle.std.specs.List.Sorted.{IsStrictlySortedBy}
use Rattle.svnpath.specs.Paths.{path_cmp}
use Rattle.repo_api.specs.States.{tree_at}
use Rattle.merge_queries.proofs.{Leading.path_bound, Noting.IsNotedTo}
use Rattle.merge_queries.proofs.beneath.+note_beneath.Given as goal

abbrev pub decreases-note_beneath : goal.decreases-note_beneath
decreases-note_beneath g l =
    path_bound (tree_at (g.R.Repository.content l.repository.now) l.revision) - length l.path.now

abbrev pub invariant-loop-name : goal.invariant-loop-name
invariant-loop-name g l = record {
  noted : IsNotedTo (tree_at (g.R.Repository.content l.repository) l.revision) l.path (take l.name-index l.name-items) l.fn.found.keys l.found.keys;
  ordered : IsStrictlySortedBy path_cmp l.fn.found.keys → IsStrictlySortedBy path_cmp l.found.keys;
}
