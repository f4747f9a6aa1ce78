-- How the files of a repository are copied into another store, in another format.
use Rattle.std.specs.Prelude.{◌≡◌, ◌⊎◌, ◌≤◌, ℕ, List, Option, Some, None, Result, OnOk, IsErr, IsErrOf}
use Rattle.fsfs_text.specs.declared.format.Layout.{Layout}
use Rattle.store_files.specs.{Folders.{Folder, text_of}, Moments.HasRisen, Stops.LeavesOnly, declared.name.FileName.TheVariants.{Format, Uuid, Locks}}
use Rattle.store_files.specs.{declared.store.Store.Ghosts, declared.fault.StoreFault.StoreFault, declared.fault.StoreFault.TheVariants.{Device, NoMemory}}
use Rattle.repostore.specs.{Files.{Files, HasFiles, revisions_below}, Opening.OnlyReads, Saving.Stands}
use Rattle.repository_creation.specs.{Creating.IsFreeOrHas, declared.migrating.Moved.Moved}

-- the locks of a copy: those that are copied; where there are none, and a file of others is in the way,
-- these bytes are written over it
abbrev pub moved_locks : List ℕ → Option (List ℕ) → Option (List ℕ) → Option (List ℕ)
moved_locks no_locks (Some bytes) there = Some bytes
moved_locks no_locks None None = None
moved_locks no_locks None (Some others) = Some no_locks

-- all files are copied but `format` and `current`, byte for byte, where these locks were
abbrev pub moved_files : Moved → Option (List ℕ) → Files → Files
moved_files moved there files = record files {
  format = Some moved.format.now;
  current = moved.current.now;
  locks = moved_locks moved.no_locks.now files.locks there;
}

-- no repository is there, whatever a stop has left of one
abbrev pub IsFree : Folder → Type 0
IsFree f = f Format ≡ None

-- none is there yet, and these locks; its name and so many revisions are those of the files that are
-- copied
pub record HasSome (there : Option (List ℕ)) (from : Layout) (copied : Folder) (to : Layout)
    (n : ℕ) (f : Folder) : Type 0 where
  pub free : f Format ≡ None
  pub locks_are : f Locks ≡ there
  pub uuid_is : f Uuid ≡ Some (text_of (copied Uuid))
  pub revisions_are : revisions_below to f n ≡ revisions_below from copied n

-- a step of a copy from a store, which is only read, into another one: no replacement is left in
-- doubt, a failure of a device is counted, and the other fault is that memory ran out
pub record IsStep {S T R : Type 0} (s : Ghosts S) (t : Ghosts T) (from then : S) (to after : T)
    (result : Result R StoreFault) : Type 0 where
  pub reads : OnlyReads s from then
  pub honest : t.is_honest after → t.is_honest to
  pub counts : t.failed to ≤ t.failed after
  pub doubt : t.in_doubt after ≡ t.in_doubt to
  pub device : IsErrOf result Device
      → HasRisen (s.failed from) (s.failed then) ⊎ HasRisen (t.failed to) (t.failed after)
  pub only : IsErr result → IsErrOf result Device ⊎ IsErrOf result NoMemory

-- a repository of these files is made where there is none: a stop leaves none, or the whole of it;
-- once it is made, it is there, also after a stop; and after a fault there is none, unless nobody
-- knows which bytes are there
pub record Makes {S T : Type 0} (s : Ghosts S) (files : Files) (old new : S)
    (result : Result T StoreFault) : Type 0 where
  pub stop : LeavesOnly s old new (IsFreeOrHas files)
  pub kept : OnOk result (Stands s new (HasFiles files))
  pub again : IsErr result → s.in_doubt new ≡ s.in_doubt old → Stands s new IsFree
