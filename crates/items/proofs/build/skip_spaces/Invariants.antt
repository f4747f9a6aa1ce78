use Rattle.std.proofs.Common.{◌≡◌, drop}
use Rattle.items.specs.Build.{behind_spaces}
use Rattle.items.proofs.build.skip_spaces.Given as goal

abbrev pub invariant-loop-i : goal.invariant-loop-i
invariant-loop-i l = behind_spaces l.bytes ≡ behind_spaces (drop l.i l.bytes)
