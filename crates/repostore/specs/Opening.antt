-- How a repository is opened: its store is only read.
use Rattle.std.specs.Prelude.{◌≡◌, ◌≤◌, Result, IsErrOf}
use Rattle.store_files.specs.{Folders.{Folder, IsSame}, Moments.HasRisen, Stops.LeavesOnly, declared.store.Store.Ghosts, declared.fault.StoreFault.StoreFault}
use Rattle.store_files.specs.declared.fault.StoreFault.TheVariants.{Device}
use Rattle.repostore.specs.{Reading.{Faulty, IfFaulty, IsFaulty}, declared.opening.Unopened.Unopened}

module _ {S : Type 0} (s : Ghosts S) where
  -- nothing is changed in the store
  pub record OnlyReads (old new : S) : Type 0 where
    pub honest : s.is_honest new → s.is_honest old
    pub same : s.is_honest new → IsSame (s.holds old) (s.holds new)
    pub left : s.is_honest new → (f : Folder) → s.may_leave new f → s.may_leave old f
    pub run : s.is_honest new → LeavesOnly s old new (s.may_leave old)
    pub doubt : s.in_doubt new ≡ s.in_doubt old
    pub counts : s.failed old ≤ s.failed new

  -- nothing is changed in the store, and a failure of the device is counted
  abbrev pub Reads : {T : Type 0} → S → S → Result T StoreFault → Type 0
  Reads old new result =
      OnlyReads old new × (IsErrOf result Device → HasRisen (s.failed old) (s.failed new))

  -- a repository was not opened: nothing is changed in its store; it is a fault of a file only where
  -- its reader finds one so; and a failure of the device is counted
  pub record IsUnopened (faults : Faulty) (old : S) (unopened : Unopened S) : Type 0 where
    pub reads : OnlyReads old unopened.store
    pub faulty : s.is_honest unopened.store
        → IfFaulty unopened.fault (IsFaulty faults (s.holds old))
    pub device : unopened.fault ≡ Device → HasRisen (s.failed old) (s.failed unopened.store)
