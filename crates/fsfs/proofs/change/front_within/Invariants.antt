use Rattle.std.proofs.Common.{◌≡◌, ◌≤◌, ◌-◌, length, take}
use Rattle.fsfs.specs.Known.{total}
use Rattle.fsfs.proofs.change.front_within.Given as goal

abbrev pub invariant-loop-front : goal.invariant-loop-front
invariant-loop-front l = record {
  within : l.front ≤ length l.lengths;
  most : l.begin ≤ l.most;
  bytes : l.begin ≡ total (take l.front l.lengths);
}

abbrev pub decreases-loop-front : goal.decreases-loop-front
decreases-loop-front l = length l.lengths - l.front
