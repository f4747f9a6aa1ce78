use Rattle.std.proofs.Common.{◌≡◌, take, drop}
use Rattle.fsfs_text.specs.Splits.{split_once}
use Rattle.fsfs_text.proofs.Splits.{passed}
use Rattle.fsfs_text.proofs.split.split_once.Given as goal

abbrev pub invariant-loop-i : goal.invariant-loop-i
invariant-loop-i l = passed (take l.i l.bytes) (split_once l.separator (drop l.i l.bytes)) ≡ split_once l.separator l.bytes
