-- The rows so far are those of the tree.
use Rattle.std.proofs.Common.{◌≡◌, take}
use Rattle.repo_api.proofs.rows.tree_of.Given as goal

abbrev pub invariant-loop-name : goal.invariant-loop-name
invariant-loop-name l = l.tree.entries ≡ take l.name-index l.rows
