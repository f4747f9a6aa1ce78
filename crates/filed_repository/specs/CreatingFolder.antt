-- A new repository in a folder.
use Rattle.std.specs.Prelude.{◌≡◌, ◌⊎◌, ◌==◌, ℕ, List, None, Option, IsSome, Result, OnOk, IsErrOf, option_and_then, if◌then◌else◌}
use Rattle.dates.specs.Dates.{IsDateText}
use Rattle.store_files.specs.{Folders.{Folder, IsSame}, Stops.LeavesOnly, declared.name.FileName.TheVariants.{Format, Locks}, declared.store.Store.Ghosts}
use Rattle.store_files.specs.{declared.fault.StoreFault.StoreFault, declared.fault.StoreFault.TheVariants.Exists}
use Rattle.repostore.specs.Saving.{Stands}
use Rattle.fsfs_text.specs.{Formats.format_of, declared.format.Format.Format as FolderFormat, declared.format.Format.TheVariants.{Two, Three}}
use Rattle.fsfs_text.specs.declared.format.Layout.TheVariants.{Sharded}
use Rattle.repo_api.specs.Opening.{new_repository}
use Rattle.stored_repository.specs.Keeping.{HasRepository}
use Rattle.filed_repository.specs.Files.{IsOf, filed_content}

-- the format that a folder says
abbrev pub format_in : Folder → Option FolderFormat
format_in f = option_and_then format_of (f Format)

-- format 2, or format 3 in shards of 1,000 revisions
abbrev pub new_format : ℕ → FolderFormat
new_format format = if format == 2 then Two else Three (Sharded 1000)

-- the folder has the files of a new repository of this name, dated at the moment
pub record HasNew (uuid moment : ℕ) (f : Folder) : Type 0 where
  pub date : List ℕ
  pub dated : IsDateText moment date
  pub has : HasRepository filed_content IsOf (new_repository uuid date) f

-- no repository is there, or the new one
abbrev pub IsFreeOrNew : ℕ → ℕ → Folder → Type 0
IsFreeOrNew uuid moment f = (f Format ≡ None) ⊎ HasNew uuid moment f

module _ {S T : Type 0} (s : Ghosts S) (uuid moment : ℕ) (old new : S)
    (result : Result T StoreFault) where
  -- by the answer: where there was none, and no locks either, there is the new repository; or there is
  -- one already, and nothing has changed
  pub record MakesNew : Type 0 where
    pub free : OnOk result (s.holds old Format ≡ None)
    pub made : s.holds old Locks ≡ None → OnOk result ∥ HasNew uuid moment (s.holds new) ∥₁
    pub exists : IsErrOf result Exists
        → IsSome (s.holds old Format) × IsSame (s.holds old) (s.holds new)

  -- a stop at any moment of the call leaves none, or the whole new one; once it is made, a stop
  -- leaves it
  pub record LeavesNew : Type 0 where
    pub stop : LeavesOnly s old new (λ f. ∥ IsFreeOrNew uuid moment f ∥₁)
    pub kept : OnOk result (Stands s new (λ f. ∥ HasNew uuid moment f ∥₁))
