use Rattle.std.proofs.Common.{◌≡◌, ◌≤◌, length, drop}
use Rattle.fsfs.specs.Known.{total}
use Rattle.fsfs.proofs.change.back_within.Given as goal

abbrev pub invariant-loop-end : goal.invariant-loop-end
invariant-loop-end l = record {
  within : (l.front ≤ l.end) × (l.end ≤ length l.lengths);
  most : l.tail ≤ l.most;
  bytes : l.tail ≡ total (drop l.end l.lengths);
}

abbrev pub decreases-loop-end : goal.decreases-loop-end
decreases-loop-end l = l.end
