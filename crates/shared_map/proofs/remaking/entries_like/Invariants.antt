use Rattle.std.proofs.Common.{◌≡◌, take}
use Rattle.shared_map.specs.{Entries.values, Rows.row_entries}
use Rattle.shared_map.proofs.remaking.entries_like.Given as goal

abbrev pub invariant-loop-row : goal.invariant-loop-row
invariant-loop-row g l = values l.list.items ≡ row_entries (take l.row-index l.rows)
