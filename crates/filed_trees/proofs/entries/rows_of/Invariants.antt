use Rattle.std.proofs.Common.{take}
use Rattle.std.specs.Prelude.{All}
use Rattle.shared_map.specs.Rows.{row_entries}
use Rattle.filed_trees.specs.{Comparing.{AreNodesOf, tables_of}, Readable.IsTabled}
use Rattle.filed_trees.proofs.entries.rows_of.Given as goal

abbrev pub invariant-loop-entry : goal.invariant-loop-entry
invariant-loop-entry l =
    AreNodesOf (tables_of l.places) (row_entries l.rows.items) (take l.entry-index l.entries)
    × All (λ e. IsTabled (tables_of l.places) e.id) (take l.entry-index l.entries)
