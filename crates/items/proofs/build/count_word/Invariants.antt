use Rattle.std.proofs.Common.{◌≡◌, ◌+◌, drop}
use Rattle.items.specs.Build.{word_len}
use Rattle.items.proofs.build.count_word.Given as goal

abbrev pub invariant-loop-i : goal.invariant-loop-i
invariant-loop-i l = word_len l.bytes ≡ l.i + word_len (drop l.i l.bytes)
