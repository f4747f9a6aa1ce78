-- A repository of format 2 that is copied into a new folder, in format 3.
use Rattle.std.specs.{Prelude.{◌≡◌, ◌⊎◌, ◌+◌, ◌-◌, ℕ, List, [], None, Option, Some, option_map, Result, OnOk, IsErr}, Result.result_ok}
use Rattle.repo_api.specs.States.{RepoState}
use Rattle.store_files.specs.{Folders.{Folder, text_of}, Stops.LeavesOnly, declared.name.FileName.TheVariants.Format, declared.store.Store.Ghosts}
use Rattle.store_files.specs.{declared.fault.StoreFault.StoreFault, declared.fault.StoreFault.TheVariants.{Device, NoMemory}}
use Rattle.store_files.specs.declared.name.FileName.TheVariants as names
use Rattle.repostore.specs.{Current.count_in, Files.{RevisionFiles, files_in}, Saving.Stands}
use Rattle.repository_creation.specs.Migrating.{IsFree}
use Rattle.fsfs_text.specs.{Formats.format_of, declared.format.Format.TheVariants.Two}
use Rattle.fsfs_nodes.specs.{Current.current_of, Locks.locks_of, declared.current.Current.Current}
use Rattle.stored_repository.specs.Keeping.{HasRepository}
use Rattle.filed_repository.specs.{Files.{IsOf, filed_content}, CreatingFolder.{format_in, new_format}, declared.migrating.SmallFiles.SmallFiles}

-- the folder has a repository of format 2, of this many revisions
pub record IsOld (f : Folder) (count : ℕ) : Type 0 where
  pub format : format_in f ≡ Some Two
  pub counted : count_in (text_of (f names.Current)) ≡ Some count
  pub repository : ∥ ((c : RepoState) × HasRepository filed_content IsOf c f) ∥₁

-- the device failed, or memory ran out
abbrev pub IsHindrance : StoreFault → Type 0
IsHindrance fault = (fault ≡ Device) ⊎ (fault ≡ NoMemory)

-- what `current` says in the copy of this many revisions
abbrev pub current_in_copy : ℕ → Current
current_in_copy count = record { format = new_format 3; youngest = count - 1; ids = None }

-- the files of the copy that are not copied; where there are no locks, there are none
pub record AreSmall (count : ℕ) (files : SmallFiles) : Type 0 where
  pub format : format_of files.format.items ≡ Some (new_format 3)
  pub current : result_ok (current_of (new_format 3) files.current.items) ≡ Some (current_in_copy count)
  pub counted : count_in files.current.items ≡ Some (count - 1 + 1)
  pub no_locks : result_ok (locks_of files.no_locks.items) ≡ Some []
  pub many : files.count ≡ count

-- the bytes of a repository's files that are copied as they are: those of its name and of its revisions
abbrev pub copied_bytes : Folder → Option (List ℕ × List RevisionFiles)
copied_bytes f = option_map (λ files. (files.uuid, files.revisions)) (files_in f)

-- no repository is there, or one that contains this
abbrev pub IsFreeOrContains : RepoState → Folder → Type 0
IsFreeOrContains c f = (f Format ≡ None) ⊎ HasRepository filed_content IsOf c f

module _ {T X : Type 0} (t : Ghosts T) (old new : T) (result : Result X StoreFault) where
  -- a repository that contains this is copied: a stop leaves none, or the whole of it; once it is
  -- copied it is there, also after a stop
  pub record MigratesTo (c : RepoState) : Type 0 where
    pub stop : LeavesOnly t old new (λ f. ∥ IsFreeOrContains c f ∥₁)
    pub kept : OnOk result (Stands t new (λ f. ∥ HasRepository filed_content IsOf c f ∥₁))

  -- the repository of a folder is copied in format 3, the files of its revisions byte for byte; a fault
  -- leaves none, where it is known which bytes are there
  pub record Migrates (from : Folder) : Type 0 where
    pub contains : (c : RepoState) → HasRepository filed_content IsOf c from → MigratesTo c
    pub bytes : OnOk result (copied_bytes (t.holds new) ≡ copied_bytes from)
    pub format : OnOk result (format_in (t.holds new) ≡ Some (new_format 3))
    pub again : IsErr result → t.in_doubt new ≡ t.in_doubt old → Stands t new IsFree
