-- How the files of a repository are read.
use Rattle.std.specs.Prelude.{◌≡◌, ◌⊎◌, ◌<◌, ℕ, List, [], ◌++◌, ◌∷◌, Option, None, Some, Result, Ok, Err}
use Rattle.fsfs_text.specs.{Formats.layout_in, declared.format.Layout.Layout, declared.fault.FileFault.FileFault}
use Rattle.fsfs_text.specs.declared.fault.FileFault.TheVariants.{Truncated, BadLine, Delta, Digest, Dangling, WrongFormat, NoMemory}
use Rattle.store_files.specs.{Folders.{Folder, text_of}, declared.name.FileName.TheVariants.{Format, Uuid, Current, Locks}}
use Rattle.store_files.specs.declared.fault.StoreFault.{StoreFault}
use Rattle.store_files.specs.declared.fault.StoreFault.TheVariants as store
use Rattle.repostore.specs.{Current.count_in, Files.{RevisionFiles, Files, HasFiles, revision_files, revisions_below}}

-- what a reader finds faulty: the first files, that of a revision behind others, the locks
pub record Faulty : Type 1 where
  pub head : Option (List ℕ) → List ℕ → List ℕ → Type 0
  pub revision : List RevisionFiles → RevisionFiles → Type 0
  pub locks : Option (List ℕ) → Type 0

-- the files that are read first
abbrev pub with_head : Option (List ℕ) → List ℕ → List ℕ → Files
with_head format uuid current =
    record { format = format; uuid = uuid; current = current; revisions = []; locks = None }

abbrev pub with_one_more : Files → RevisionFiles → Files
with_one_more files new = record files { revisions = files.revisions ++ new ∷ [] }

abbrev pub with_read_locks : Files → Option (List ℕ) → Files
with_read_locks files locks = record files { locks = locks }

-- what is read behind so many revisions
abbrev pub read_below : Layout → Folder → ℕ → Files
read_below layout f n = record {
  format = f Format;
  uuid = text_of (f Uuid);
  current = text_of (f Current);
  revisions = revisions_below layout f n;
  locks = None;
}

-- the reader has taken the files that the folder has
pub record HasTaken {R : Type 0} (took : R → Files → Type 0) (f : Folder)
    (reader : R) : Type 0 where
  pub files : Files
  pub are : HasFiles files f
  pub taken : took reader files

-- one of so many revisions is faulty
abbrev pub HasFaultyRevision : Faulty → Layout → Folder → ℕ → Type 0
HasFaultyRevision faulty layout f m =
    (n : ℕ) × (n < m) × faulty.revision (revisions_below layout f n) (revision_files layout f n)

-- a folder is faulty where a reader finds one of the files so that are reached
abbrev pub IsFaulty : Faulty → Folder → Type 0
IsFaulty faulty f =
    faulty.head (f Format) (text_of (f Uuid)) (text_of (f Current))
    ⊎ ((m : ℕ) × (count_in (text_of (f Current)) ≡ Some m)
    × HasFaultyRevision faulty (layout_in (f Format)) f m)
    ⊎ faulty.locks (f Locks)

-- where the fault is that of a file, this holds; want of memory is no fault of a file
abbrev pub IfFileFaulty : FileFault → Type 0 → Type 0
IfFileFaulty NoMemory P = Unit {0}
IfFileFaulty Truncated P = P
IfFileFaulty BadLine P = P
IfFileFaulty Delta P = P
IfFileFaulty Digest P = P
IfFileFaulty Dangling P = P
IfFileFaulty WrongFormat P = P

-- where a file is told to be faulty, this holds; else the device failed, or memory was refused
abbrev pub IfFaulty : StoreFault → Type 0 → Type 0
IfFaulty store.Device P = Unit {0}
IfFaulty store.NoMemory P = Unit {0}
IfFaulty (store.File fault) P = P
IfFaulty store.Halted P = ⊥
IfFaulty store.Exists P = ⊥

-- where a file is told to be faulty, this holds
abbrev pub IfFindsFaulty : {T : Type 0} → Result T FileFault → Type 0 → Type 0
IfFindsFaulty (Ok x) P = Unit {0}
IfFindsFaulty (Err fault) P = IfFileFaulty fault P

abbrev pub IfStoreFindsFaulty : {T : Type 0} → Result T StoreFault → Type 0 → Type 0
IfStoreFindsFaulty (Ok x) P = Unit {0}
IfStoreFindsFaulty (Err fault) P = IfFaulty fault P
