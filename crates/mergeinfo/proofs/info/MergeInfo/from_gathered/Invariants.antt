use Rattle.std.specs.{Map.keys_of, List.Sorted.IsStrictlySortedBy}
use Rattle.svnpath.specs.Paths.{path_cmp}
use Rattle.mergeinfo.proofs.Gathering.{IsNormalTo, as_sources}
use Rattle.mergeinfo.proofs.info.MergeInfo.from_gathered.Given as goal

abbrev pub invariant-loop-path : goal.invariant-loop-path
invariant-loop-path l = record {
  sorted : IsStrictlySortedBy path_cmp (keys_of l.fn.gathered.entries);
  normal : IsNormalTo (as_sources l.fn.gathered.entries) l.sources.items (as_sources l.path-iterator);
}
