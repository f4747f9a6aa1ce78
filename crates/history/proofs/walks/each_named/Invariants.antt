-- Those so far are named, and seen.
use Rattle.std.proofs.Common.{◌≡◌, take}
use Rattle.std.specs.{BTreeSet.contains, List.list_any}
use Rattle.svnpath.specs.Paths.{path_cmp, PathValue, same_path}
use Rattle.history.specs.Logs.{AreSameNamed}
use Rattle.history.proofs.walks.each_named.Given as goal

abbrev pub invariant-loop-path : goal.invariant-loop-path
invariant-loop-path l = record {
  named : AreSameNamed l.named.items (take l.path-index l.paths);
  seen : (q : PathValue) → contains path_cmp l.seen q ≡ list_any (λ p. same_path p q) (take l.path-index l.paths);
}
