use Rattle.std.proofs.Common.{◌⊎◌, map, take}
use Rattle.std.specs.{List.{AllByRecursion, Contains}, Map.Iter.deref}
use Rattle.shared_map.proofs.comparing.unlike.Given as goal

abbrev pub invariant-loop-entry : goal.invariant-loop-entry
invariant-loop-entry g l = record {
  from : AllByRecursion (Contains (map deref l.entries)) (map deref l.list.items);
  others : AllByRecursion (λ e. Contains (map deref l.others) e ⊎ Contains (map deref l.list.items) e) (map deref (take l.entry-index l.entries));
}
