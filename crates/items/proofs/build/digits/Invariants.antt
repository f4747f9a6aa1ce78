use Rattle.std.proofs.Common.{◌≡◌, drop}
use Rattle.items.specs.Build.{numeral_at}
use Rattle.items.proofs.build.digits.Given as goal

abbrev pub invariant-loop-i : goal.invariant-loop-i
invariant-loop-i l = numeral_at 0 l.bytes ≡ numeral_at l.n (drop l.i l.bytes)
