-- What a change writes, and what that makes of the files.
use Rattle.std.specs.Prelude.{◌≡◌, ◌+◌, ◌<◌, Bool, List, [], ◌∷◌, if◌then◌else◌, Some, length, Result}
use Rattle.repo_api.specs.{Accepted.{Accepted, changed}, States.RepoState}
use Rattle.repo_api.specs.declared.repository.Repository as Repository
use Rattle.store_files.specs.declared.store.Store as Store
use Rattle.store_files.specs.declared.fault.StoreFault.{StoreFault}
use Rattle.store_files.specs.declared.fault.StoreFault.TheVariants as store
use Rattle.repostore.specs.{Current.count_in, Files.{Files, with_locks, with_properties, with_revision}, Saving.{IsSaved, SaveEnds, SaveMakes}}
use Rattle.repostore.specs.declared.saves.Saves.{Saves}
use Rattle.access.specs.Beginnings.{through}
use Rattle.stored_repository.specs.Leaving.{FilesLeave, FilesStand}
use Rattle.stored_repository.specs.declared.filed.Filed as Filed
use Rattle.published.specs.Files.{Kept}
use Rattle.archives.specs.{Archives.SaveLeaves, declared.archive.SaveFault.SaveFault}
use Rattle.archives.specs.declared.archive.SaveFault.TheVariants as faults
use Rattle.filed_archive.specs.{declared.unsaved.ChangedFiles.ChangedFiles, declared.unsaved.ChangedFiles.TheVariants.{Revision, Locks, Properties}}
use Rattle.filed_archive.specs.{declared.unsaved.Unsaved.Unsaved, declared.filed_archive.FiledArchive.FiledArchive}

-- the files once it is written
abbrev pub written : ChangedFiles → Files → Files
written (Revision new) files =
    with_revision files (new.revision.items, new.properties.items) new.current.items
written (Locks file) files = with_locks files file.items
written (Properties new) files = with_properties files new.revision new.file.items

-- it can be written to these files: `current` has one revision more, or the revision is there
abbrev pub Fits : ChangedFiles → Files → Type 0
Fits (Revision new) files = count_in new.current.items ≡ Some (length files.revisions + 1)
Fits (Locks file) files = Unit {0}
Fits (Properties new) files = new.revision < length files.revisions

-- the files of the one become those of the other
abbrev pub Leads : {F : Type 0} → (F → Files → Type 0) → F → ChangedFiles → F → Type 0
Leads is_of repository new next = (files : Files) → is_of repository files
    → is_of next (written new files) × Fits new files

-- how a save that failed is told, where saves have come to a halt or not
abbrev pub told_as : Bool → StoreFault → SaveFault
told_as halted store.NoMemory = faults.NoMemory
told_as halted store.Device = if halted then faults.Halted else faults.Device
told_as halted (store.File fault) = if halted then faults.Halted else faults.Device
told_as halted store.Halted = if halted then faults.Halted else faults.Device
told_as halted store.Exists = if halted then faults.Halted else faults.Device

-- the save of these files, where they can be written to those that are saved
abbrev pub SavesFiles : {S : Type 0} → Store.Ghosts S → ChangedFiles → Saves S
    → Result (Unit {0}) StoreFault → Saves S → Type 0
SavesFiles s new old result after =
    ((files : Files) → IsSaved s old files → Fits new files
    → SaveMakes s old after result files (written new files))
    × SaveEnds s old after result

module _ {F S T : Type 0} {f : Filed.Ghosts F T} {r : Repository.Ghosts F T}
    {s : Store.Ghosts S} where
  -- an archive, as its keeper sees it
  abbrev pub kept_of : FiledArchive F S T f r s → Kept
  kept_of a = record {
    content = r.content a.repository;
    halted = a.saves.is_halted;
    failures = s.failed a.saves.store;
  }

  -- what the change makes of the repository, and writes
  pub record Writes (a : FiledArchive F S T f r s) (unsaved : Unsaved F)
      (e : Accepted) : Type 0 where
    pub next : r.content unsaved.next ≡ changed (r.content a.repository) e
    pub leads : Leads f.is_of a.repository unsaved.files unsaved.next

  -- its files stand for one of these, if they are honest
  abbrev pub stands_of : FiledArchive F S T f r s → List RepoState → Type 0
  stands_of a cs = FilesStand r.content f.is_of s a.saves cs

  -- and so has what a stop leaves at any moment from the one to the other
  abbrev pub Leaves : FiledArchive F S T f r s → FiledArchive F S T f r s → List RepoState → Type 0
  Leaves a b cs = FilesLeave r.content f.is_of s a.saves b.saves cs

  -- what the save of a change leaves; and a stop within it leaves an honest store with the files of
  -- the repository before the change, or after it, and so it stands then
  abbrev pub SavesChange : Accepted → FiledArchive F S T f r s → Result (Unit {0}) SaveFault
      → FiledArchive F S T f r s → Type 0
  SavesChange e old result new =
      SaveLeaves e (kept_of old) result (kept_of new)
      × Leaves old new (through (r.content old.repository) (e ∷ []))
