-- Which files of a folder are faulty.
use Rattle.std.specs.{Prelude.{◌≡◌, ◌⊎◌, ℕ, suc, List, None, Some, Result, Ok, Err, map}, Result.result_ok}
use Rattle.repo_api.specs.States.{RepoState}
use Rattle.store_files.specs.{declared.store.Store.Ghosts, declared.fault.StoreFault.TheVariants.{Device, NoMemory}}
use Rattle.repostore.specs.{Current.count_in, Reading.{Faulty, with_head}, declared.opening.Unopened.Unopened}
use Rattle.stored_repository.specs.Keeping.{HasRepository}
use Rattle.fsfs_text.specs.{declared.fault.FileFault.FileFault, declared.format.Format.Format}
use Rattle.fsfs_nodes.specs.{Current.current_of, declared.current.Current.Current}
use Rattle.filed_trees.specs.StandsFor.{locks_in}
use Rattle.filed_repository.specs.{Files.{IsOf, filed_content}, Reading.{ContinueHistory, SayHead}}

-- the file `current` of a folder of the format says this
pub record SaysCurrent (format : Format) (bytes : List ℕ) (current : Current) : Type 0 where
  pub read : result_ok (current_of format bytes) ≡ Some current
  pub count : count_in bytes ≡ Some (suc current.youngest)

-- by the result: what a file says, of which this holds, or that it says nothing of the kind
abbrev pub ReadsOne : {T : Type 0} → (T → Type 0) → Result T FileFault → Type 0
ReadsOne P (Ok x) = P x
ReadsOne {T} P (Err fault) = (x : T) → P x → ⊥

-- first files that say no format, name and youngest revision; a revision whose file is not the next one
-- of a history, or whose properties cannot be read; a file of locks that says none
abbrev pub folder_faults : Faulty
folder_faults = record {
  head = λ format uuid current. (name : ℕ) (youngest : Current)
      → SayHead name youngest (with_head format uuid current) → ⊥;
  revision = λ before files. ContinueHistory (map (λ r. r.0) before) files → ⊥;
  locks = λ locks. locks_in locks ≡ None;
}

-- where the folder has the files of a repository, the device failed, or memory ran out
abbrev pub IsHindered : {S : Type 0} → Ghosts S → S → Unopened S → Type 0
IsHindered s store unopened = s.is_honest unopened.store
    → (c : RepoState) → HasRepository filed_content IsOf c (s.holds store)
    → (unopened.fault ≡ Device) ⊎ (unopened.fault ≡ NoMemory)
