use Rattle.std.proofs.Common.{◌≡◌, ◌≤◌, drop}
use Rattle.fsfs_text.specs.Numerals.{digits_behind}
use Rattle.fsfs_text.proofs.numeral.parse_number.Given as goal

abbrev pub invariant-loop-byte : goal.invariant-loop-byte
invariant-loop-byte l = record {
  rest : digits_behind l.base l.limit l.n (drop l.byte-index l.bytes) ≡ digits_behind l.base l.limit 0 l.bytes;
  small : l.n ≤ l.limit;
}
