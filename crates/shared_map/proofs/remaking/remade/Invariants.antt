use Rattle.std.proofs.Common.{◌≡◌, ◌≤◌, length, take}
use Rattle.std.specs.List.{AllByRecursion}
use Rattle.shared_map.specs.{Entries.{values, all_entries, IsFilled}, Rows.row_entries}
use Rattle.shared_map.proofs.remaking.remade.Given as goal

abbrev pub invariant-loop-place : goal.invariant-loop-place
invariant-loop-place g l = record {
  within : l.at ≤ length l.rows;
  filled : AllByRecursion IsFilled (values l.made.items);
  entries : all_entries l.made.items ≡ row_entries (take l.at l.rows);
}
