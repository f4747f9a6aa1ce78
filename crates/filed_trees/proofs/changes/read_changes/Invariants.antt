use Rattle.std.proofs.Common.{◌≡◌, [], drop}
use Rattle.filed_trees.specs.Changes.{with_lines}
use Rattle.filed_trees.proofs.changes.read_changes.Given as goal

abbrev pub invariant-loop-change : goal.invariant-loop-change
invariant-loop-change l = with_lines l.list.items (drop l.change-index l.changes) ≡ with_lines [] l.changes
