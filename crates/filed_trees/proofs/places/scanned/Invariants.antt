use Rattle.std.proofs.Common.{◌≡◌, ◌<◌, ℕ, Some, slice_get}
use Rattle.filed_trees.specs.declared.placed.Placed.{Placed}
use Rattle.filed_trees.proofs.places.scanned.Given as goal

abbrev pub invariant-loop-k : goal.invariant-loop-k
invariant-loop-k l = (j : ℕ) (p : Placed) → j < l.k → slice_get l.placed j ≡ Some p → p.id ≡ l.id → ⊥
