-- What is set so far with what is left is all of it, in order.
use Rattle.std.proofs.Common.{◌≡◌}
use Rattle.repo_api.specs.{Held.{IsInOrder, list_of}, Properties.with_properties}
use Rattle.repo_api.proofs.held.set_tree.Given as goal

abbrev pub invariant-loop-name : goal.invariant-loop-name
invariant-loop-name l =
    (with_properties (list_of l.held) l.name-iterator ≡ with_properties (list_of l.fn.held) l.tree.entries)
    × IsInOrder l.held
