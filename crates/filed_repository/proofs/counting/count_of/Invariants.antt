-- What the bytes so far spell, and that it is no number too large.
use Rattle.std.proofs.Common.{◌≡◌, ◌≤◌, drop}
use Rattle.repostore.specs.Current.{count_in, counted, number_behind}
use Rattle.filed_repository.proofs.counting.count_of.Given as goal

abbrev pub invariant-loop-byte : goal.invariant-loop-byte
invariant-loop-byte l =
    (count_in l.bytes ≡ counted (number_behind l.youngest (drop l.byte-index l.bytes)))
    × (l.youngest ≤ 262143)
