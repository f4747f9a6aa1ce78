-- What is set so far with what is left is all of it, in order.
use Rattle.std.proofs.Common.{◌≡◌, drop}
use Rattle.repo_api.specs.{Held.{IsInOrder, list_of}, Properties.with_properties}
use Rattle.repo_api.proofs.held.set_rows.Given as goal

abbrev pub invariant-loop-name : goal.invariant-loop-name
invariant-loop-name l =
    (with_properties (list_of l.held) (drop l.name-index l.rows) ≡ with_properties (list_of l.fn.held) l.rows)
    × IsInOrder l.held
