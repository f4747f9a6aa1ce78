-- The files of a repository that is new.
use Rattle.std.specs.Prelude.{◌≡◌, ◌⊎◌, ℕ, List, [], ◌∷◌, Option, Some, None, Result, OnOk, IsErr}
use Rattle.store_files.specs.{Folders.Folder, Stops.LeavesOnly, declared.name.FileName.TheVariants.{Format, Locks}, declared.fault.StoreFault.StoreFault}
use Rattle.store_files.specs.declared.store.Store.{Ghosts}
use Rattle.repostore.specs.{Current.count_in, Files.{Files, HasFiles}, Saving.Stands}
use Rattle.repository_creation.specs.declared.creating.Opening.{Opening}

-- beside locks that stand there
abbrev pub opening_files : Opening → Option (List ℕ) → Files
opening_files o locks = record {
  format = Some o.format.now;
  uuid = o.uuid.now;
  current = o.current.now;
  revisions = (o.revision.now, o.properties.now) ∷ [];
  locks = locks;
}

-- no repository is there, whatever a stop has left of one, and these locks
pub record IsFreeWith (locks : Option (List ℕ)) (f : Folder) : Type 0 where
  pub free : f Format ≡ None
  pub locks_are : f Locks ≡ locks

-- no repository is there, or it has these files
abbrev pub IsFreeOrHas : Files → Folder → Type 0
IsFreeOrHas files f = (f Format ≡ None) ⊎ HasFiles files f

-- a repository is made where there is none: a stop leaves none, or the whole new one; once it is
-- made, it is there, also after a stop; and after a fault there is none, unless nobody knows which
-- bytes are there, so that it may be made again
pub record Creates {S T : Type 0} (s : Ghosts S) (o : Opening) (locks : Option (List ℕ))
    (old new : S) (result : Result T StoreFault) : Type 0 where
  pub stop : count_in o.current.now ≡ Some 1
      → LeavesOnly s old new (IsFreeOrHas (opening_files o locks))
  pub kept : count_in o.current.now ≡ Some 1
      → OnOk result (Stands s new (HasFiles (opening_files o locks)))
  pub again : IsErr result → s.in_doubt new ≡ s.in_doubt old → Stands s new (IsFreeWith locks)
