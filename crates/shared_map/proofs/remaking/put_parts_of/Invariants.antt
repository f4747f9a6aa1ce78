use Rattle.std.proofs.Common.{◌≡◌, ◌≤◌, ◌-◌, ◌++◌, length, take}
use Rattle.std.specs.List.{AllByRecursion}
use Rattle.shared_map.specs.{Entries.{values, all_entries, IsFilled}, Rows.row_entries}
use Rattle.shared_map.proofs.remaking.put_parts_of.Given as goal

abbrev pub invariant-loop-at : goal.invariant-loop-at
invariant-loop-at g l = record {
  within : l.at ≤ length l.rows;
  filled : AllByRecursion IsFilled (values l.parts.items);
  entries : all_entries l.parts.items ≡ all_entries l.fn.parts.items ++ row_entries (take l.at l.rows);
}

abbrev pub decreases-loop-at : goal.decreases-loop-at
decreases-loop-at g l = length l.rows - l.at
