-- What a stop leaves of a store's files since a moment.
use Rattle.std.specs.Prelude.{◌⊎◌, ◌≤◌, ℕ}
use Rattle.store_files.specs.{Folders.Folder, declared.store.Store.Ghosts}

-- a stop at any moment since old leaves a folder that has P
pub record LeavesOnly {S : Type 0} (s : Ghosts S) (old new : S) (P : Folder → Type 0) : Type 0 where
  pub later : s.moment old ≤ s.moment new
  pub each : (f : Folder) → s.left_since new (s.moment old) f → P f
  -- for a run that began earlier
  pub before : (t : ℕ) (f : Folder) → t ≤ s.moment old → s.left_since new t f
      → s.left_since old t f ⊎ P f
