-- Each of those so far stands there once, and is seen.
use Rattle.std.proofs.Common.{◌≡◌, ℕ, take}
use Rattle.std.specs.{BTreeSet.contains, Ordering.nat_cmp}
use Rattle.history.specs.{Logs.is_among, Locations.each_once}
use Rattle.history.proofs.locating.each_once.Given as goal

abbrev pub invariant-loop-revision : goal.invariant-loop-revision
invariant-loop-revision l = record {
  once : l.once.items ≡ each_once (take l.revision-index l.revisions);
  seen : (k : ℕ) → contains nat_cmp l.seen k ≡ is_among k (take l.revision-index l.revisions);
}
