use Rattle.std.proofs.Common.{◌≡◌, [], drop}
use Rattle.fsfs_nodes.specs.Rows.{with_rows}
use Rattle.fsfs_nodes.proofs.rows.read_rows.Given as goal

abbrev pub invariant-loop-pair : goal.invariant-loop-pair
invariant-loop-pair l = with_rows l.rows (drop l.pair-index l.pair-items) ≡ with_rows [] l.pair-items
