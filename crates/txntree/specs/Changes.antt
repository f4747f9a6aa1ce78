-- The changes of an open node from the first on, in the order of names.
use Rattle.std.specs.{Prelude.{◌≡◌, List, Option, Some, None, IsSome}, BTreeMap.{BTreeMap, is_at}, Cmp.Lexicographic.slice_cmp, List.Sorted.IsStrictlySortedBy}
use Rattle.std.specs.{Map.{keys_of, lookup}, Ordering.nat_cmp}
use Rattle.svnpath.specs.Paths.{Component}
use Rattle.txntree.specs.{Spots.changed_at, declared.open.Change.Change, declared.open.OpenNode.OpenNode}

-- the first change of a name
abbrev pub first_of : List (Component × Change) → Component → Option Change
first_of changes n = lookup (is_at (slice_cmp nat_cmp n)) changes

-- those that are left, and what was made of the others
pub record IsWalking (self : OpenNode) (left : List (Component × Change))
    (kept : BTreeMap Component Change) (P : Component → Option Change → Type 0) : Type 0 where
  pub sorted : IsStrictlySortedBy (slice_cmp nat_cmp) (keys_of left)
  pub among : (n : Component) (c : Change) → first_of left n ≡ Some c → changed_at self.changed n ≡ Some c
  pub todo : (n : Component) → IsSome (first_of left n) → changed_at kept n ≡ None
  pub done : (n : Component) → first_of left n ≡ None → P n (changed_at kept n)
