-- Where grafts stand in the order of their report.
use Rattle.std.specs.{Prelude.{◌≡◌, ◌<◌, ℕ, nat_lt, Bool, true, false, if◌then◌else◌, List, [], ◌∷◌, ◌++◌, length, Option, Some, None, slice_get}, Map.lookup}
use Rattle.std.specs.BTreeMap.{is_at}
use Rattle.svnpath.specs.Paths.{is_at_or_under, path_cmp, PathValue, same_path}
use Rattle.reporter.specs.{declared.graft.Graft.Graft, declared.index.GraftIndex.GraftIndex}

-- the last of the first so many grafts of which this is so, by its place in the order
abbrev pub IsLastOf : (Graft → Bool) → List Graft → ℕ → Option ℕ → Type 0
IsLastOf P grafts count None =
    (i : ℕ) (g : Graft) → i < count → slice_get grafts i ≡ Some g → P g ≡ false
IsLastOf P grafts count (Some n) =
    (n < count) × (n < length grafts)
    × ((g : Graft) → slice_get grafts n ≡ Some g → P g ≡ true)
    × ((i : ℕ) (g : Graft) → n < i → i < count → slice_get grafts i ≡ Some g → P g ≡ false)

-- the later of two places, if there are any
abbrev pub later : Option ℕ → Option ℕ → Option ℕ
later None other = other
later (Some n) None = Some n
later (Some n) (Some m) = Some (if nat_lt n m then m else n)

-- the last at a path, and the last at or above it
abbrev pub IsLastAt : PathValue → List Graft → ℕ → Option ℕ → Type 0
IsLastAt p = IsLastOf (λ g. same_path p g.path)

abbrev pub IsLastAbove : PathValue → List Graft → ℕ → Option ℕ → Type 0
IsLastAbove p = IsLastOf (λ g. is_at_or_under p g.path)

-- what a map has for a path
abbrev pub place_of : List (PathValue × ℕ) → PathValue → Option ℕ
place_of entries p = lookup (is_at (path_cmp p)) entries

-- The grafts are found by their paths: the last at each path, and for each graft the one before it
-- at the same path.
pub record AreFound (grafts : List Graft) (newest : List (PathValue × ℕ))
    (older : List (Option ℕ)) : Type 0 where
  pub count : length older ≡ length grafts
  pub last : (p : PathValue) → IsLastAt p grafts (length grafts) (place_of newest p)
  pub before : (i : ℕ) (g : Graft) (o : Option ℕ) → slice_get grafts i ≡ Some g
      → slice_get older i ≡ Some o → IsLastAt g.path grafts i o

-- one graft more was noted, at a path
pub record IsNoted (p : PathValue) (old new : GraftIndex) : Type 0 where
  pub newest : (q : PathValue) → place_of new.newest.entries q
      ≡ (if same_path p q then Some (length old.older.items) else place_of old.newest.entries q)
  pub older : new.older.items ≡ old.older.items ++ place_of old.newest.entries p ∷ []
