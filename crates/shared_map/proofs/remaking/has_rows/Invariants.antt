use Rattle.std.proofs.Common.{◌≡◌, take}
use Rattle.shared_map.specs.{Entries.values, Rows.row_entries}
use Rattle.shared_map.proofs.remaking.has_rows.Given as goal

abbrev pub invariant-loop-k : goal.invariant-loop-k
invariant-loop-k g l = values (take l.k l.part) ≡ row_entries (take l.k l.rows)
