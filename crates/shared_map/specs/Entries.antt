-- The entries of a map in parts: names with their values, in the order of the names' bytes.
use Rattle.std.specs.{Prelude.{◌≡◌, ◌<◌, ◌≤◌, not, ℕ, Bool, true, T, List, [], ◌∷◌, map, length}, Cmp.Lexicographic.slice_cmp}
use Rattle.std.specs.{FinMap.Entries.{is_sorted, where_key}, List.{AllByRecursion, flat_map}, Ordering.{eq_by_cmp, is_lt, nat_cmp}}
use Rattle.std.specs.{declared.cmp.Ordering.Ordering, declared.cmp.Ordering.TheVariants.{Less, Greater}, declared.sync.Arc.Arc, declared.vec.Vec.Vec}

-- names go by their bytes
abbrev pub by_bytes : List ℕ → List ℕ → Ordering
by_bytes = slice_cmp nat_cmp

-- what the shared pointers point to
abbrev pub values : {X Z : Type 0} → List (Arc X Z) → List X
values = map (λ a. a.value)

-- the entries of a part
abbrev pub part_entries : {X Y Z : Type 0} → Vec (Arc X Y) Z → List X
part_entries part = values part.items

-- the entries of all parts, one after another
abbrev pub all_entries : {X Y Z V : Type 0} → List (Arc (Vec (Arc X Y) Z) V) → List X
all_entries parts = flat_map part_entries (values parts)

-- a part has an entry, and no more than 128
abbrev pub IsFilled : {X Y Z : Type 0} → Vec (Arc X Y) Z → Type 0
IsFilled part = (0 < length (part_entries part)) × (length (part_entries part) ≤ 128)

-- the names of all parts, one after another, strictly rise, and no part is empty or too long
pub record AreParts {X Y Z V : Type 0} (parts : List (Arc (Vec (Arc (List ℕ × X) Y) Z) V)) : Type 0 where
  pub sorted : T (is_sorted by_bytes (all_entries parts))
  pub filled : AllByRecursion IsFilled (values parts)

-- the entries of other names
abbrev pub without : {X : Type 0} → List ℕ → List (List ℕ × X) → List (List ℕ × X)
without name es = where_key by_bytes (λ n. not (eq_by_cmp by_bytes name n)) es

-- a name comes before the first of these entries
abbrev pub is_before : {X : Type 0} → List ℕ → List (List ℕ × X) → Bool
is_before name [] = true
is_before name (e ∷ es) = is_lt (by_bytes name e.0)

-- a name comes behind those before it and before those behind it
pub record IsBetween {X : Type 0} (name : List ℕ) (before behind : List (List ℕ × X)) : Type 0 where
  pub above : AllByRecursion (λ e. by_bytes name e.0 ≡ Greater) before
  pub below : AllByRecursion (λ e. by_bytes name e.0 ≡ Less) behind
