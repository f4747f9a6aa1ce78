-- How files are saved, call by call.
use Rattle.std.specs.Prelude.{◌≡◌, ◌⊎◌, ◌↔◌, ◌<◌, ℕ, List, Some, true, false, length, Result, OnOk, IsErr, IsErrOf}
use Rattle.store_files.specs.{Folders.{Folder, IsSame, SameBut, Swapped}, Moments.{Elapses, HasRisen}, Stops.LeavesOnly, declared.name.FileName.FileName}
use Rattle.store_files.specs.{declared.store.Store.Ghosts, declared.fault.StoreFault.StoreFault}
use Rattle.store_files.specs.declared.fault.StoreFault.TheVariants.{Device, Halted, NoMemory}
use Rattle.fsfs_text.specs.Formats.{layout_in}
use Rattle.repostore.specs.{Files.{Files, HasEither, HasFiles, properties_name, revision_name}, declared.saves.Saves.Saves}

-- the folder has these files, and those of a revision that is not reached yet
pub record HasNext (files : Files) (n : ℕ) (revision properties : List ℕ)
    (f : Folder) : Type 0 where
  pub files_are : HasFiles files f
  pub revision_is : f (revision_name (layout_in files.format) n) ≡ Some revision
  pub properties_are : f (properties_name (layout_in files.format) n) ≡ Some properties

module _ {S : Type 0} (s : Ghosts S) where
  -- what is read has P, and so has what a stop leaves now
  pub record Stands (store : S) (P : Folder → Type 0) : Type 0 where
    pub honest : s.is_honest store
    pub read : P (s.holds store)
    pub left : (f : Folder) → s.may_leave store f → P f

  -- the store has these files, and so has whatever a stop leaves now; and saves go on
  pub record IsSaved (saves : Saves S) (files : Files) : Type 0 where
    pub stands : Stands saves.store (HasFiles files)
    pub count : saves.count ≡ length files.revisions
    pub layout : saves.layout ≡ layout_in files.format
    pub goes_on : saves.is_halted ≡ false

  -- a stop since the start leaves what has P, and now there stands what has Q
  pub record Going (start now : S) (P Q : Folder → Type 0) : Type 0 where
    pub stands : Stands now Q
    pub run : LeavesOnly s start now P

  -- a file was replaced, or it was not
  pub record Replaces (name : FileName) (bytes : List ℕ) (old new : S) : Type 0 where
    pub honest : s.is_honest new
    pub others : SameBut name (s.holds old) (s.holds new)
    pub either : (s.holds new name ≡ s.holds old name) ⊎ (s.holds new name ≡ Some bytes)
    pub stop : (f : Folder) → s.may_leave new f → Swapped (s.may_leave old) name bytes f
    pub time : Elapses (s.moment old) (s.moment new) (s.left_since old) (s.left_since new)
        (Swapped (s.may_leave old) name bytes)

  -- the file has these bytes, also where a stop comes now
  pub record IsWritten (name : FileName) (bytes : List ℕ) (store : S) : Type 0 where
    pub read : s.holds store name ≡ Some bytes
    pub left : (f : Folder) → s.may_leave store f → f name ≡ Some bytes

  -- nothing has changed
  pub record IsUnchanged (old new : S) : Type 0 where
    pub read : IsSame (s.holds old) (s.holds new)
    pub left : (f : Folder) → s.may_leave new f → s.may_leave old f

  -- a save makes the one files of the other: once it is made, they are saved; and whatever it answers, there
  -- stands the one or the other, and a stop within it leaves the one or the other
  pub record SaveMakes {T : Type 0} (old new : Saves S) (result : Result T StoreFault)
      (before after : Files) : Type 0 where
    pub made : OnOk result (IsSaved new after)
    pub stands : Stands new.store (HasEither before after)
    pub stop : LeavesOnly s old.store new.store (HasEither before after)

  -- how a save of any files ends: after a fault that does not halt, the files are those that
  -- were saved; saves halt only by a failure of the device after which nobody knows which bytes are
  -- there, and once they have, nothing is done; a failure of the device is counted, and the other
  -- faults are that saves had halted, and that memory ran out
  pub record SaveEnds {T : Type 0} (old new : Saves S) (result : Result T StoreFault) : Type 0 where
    pub refused : (files : Files) → IsSaved old files → IsErr result → new.is_halted ≡ false
        → IsSaved new files
    pub honest : s.is_honest old.store ↔ s.is_honest new.store
    pub halts : (new.is_halted ≡ true)
        ↔ ((old.is_halted ≡ true) ⊎ (s.in_doubt old.store < s.in_doubt new.store))
    pub by_device : new.is_halted ≡ true → (old.is_halted ≡ true) ⊎ IsErrOf result Device
    pub halted : IsErrOf result Halted ↔ (old.is_halted ≡ true)
    pub stays : old.is_halted ≡ true → new ≡ old
    pub device : IsErrOf result Device → HasRisen (s.failed old.store) (s.failed new.store)
    pub steady : (IsErrOf result Device → ⊥) → s.failed new.store ≡ s.failed old.store
    pub only : IsErr result
        → IsErrOf result Device ⊎ IsErrOf result NoMemory ⊎ IsErrOf result Halted
