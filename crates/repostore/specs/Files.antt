-- The files that are reached from `current`, and what they stand for.
use Rattle.std.specs.Prelude.{◌≡◌, ◌⊎◌, ℕ, zero, suc, List, [], ◌∷◌, ◌++◌, Option, Some, option_map}
use Rattle.fsfs_text.specs.{Formats.{layout_in, shard_in}, declared.format.Layout.Layout}
use Rattle.store_files.specs.{Folders.{Folder, text_of}, declared.name.FileName.FileName}
use Rattle.store_files.specs.declared.name.FileName.TheVariants.{Format, Uuid, Current, Locks, Revision, Properties}
use Rattle.repostore.specs.Current.{count_in}

-- the names of the files of a revision, and of its properties, in a layout
abbrev pub revision_name : Layout → ℕ → FileName
revision_name layout n = Revision (shard_in layout n) n

abbrev pub properties_name : Layout → ℕ → FileName
properties_name layout n = Properties (shard_in layout n) n

-- the file of a revision, and that of its properties
abbrev pub RevisionFiles : Type 0
RevisionFiles = List ℕ × List ℕ

-- the files of a repository that are read
pub record Files : Type 0 where
  pub format : Option (List ℕ)
  pub uuid : List ℕ
  pub current : List ℕ
  pub revisions : List RevisionFiles
  pub locks : Option (List ℕ)

abbrev pub revision_files : Layout → Folder → ℕ → RevisionFiles
revision_files layout f n = (text_of (f (revision_name layout n)), text_of (f (properties_name layout n)))

-- those of the revisions below a number; a file that is missing has no bytes
abbrev pub revisions_below : Layout → Folder → ℕ → List RevisionFiles
revisions_below layout f zero = []
revisions_below layout f (suc n) = revisions_below layout f n ++ revision_files layout f n ∷ []

-- the files that are reached where there are so many revisions
abbrev pub reached : Layout → Folder → ℕ → Files
reached layout f n = record {
  format = f Format;
  uuid = text_of (f Uuid);
  current = text_of (f Current);
  revisions = revisions_below layout f n;
  locks = f Locks;
}

-- the files that are reached from `current`, if it says how many there are, in the layout that `format` says
abbrev pub files_in : Folder → Option Files
files_in f = option_map (reached (layout_in (f Format)) f) (count_in (text_of (f Current)))

-- the folder has these files, whatever else
abbrev pub HasFiles : Files → Folder → Type 0
HasFiles files f = files_in f ≡ Some files

-- the files with those of one more revision
abbrev pub with_revision : Files → RevisionFiles → List ℕ → Files
with_revision files new current =
    record files { current = current; revisions = files.revisions ++ new ∷ [] }

abbrev pub with_locks : Files → List ℕ → Files
with_locks files locks = record files { locks = Some locks }

abbrev pub with_second : List RevisionFiles → ℕ → List ℕ → List RevisionFiles
with_second [] n bytes = []
with_second (r ∷ rs) zero bytes = (r.0, bytes) ∷ rs
with_second (r ∷ rs) (suc n) bytes = r ∷ with_second rs n bytes

abbrev pub with_properties : Files → ℕ → List ℕ → Files
with_properties files n bytes =
    record files { revisions = with_second files.revisions n bytes }

-- it has the one or the other
abbrev pub HasEither : Files → Files → Folder → Type 0
HasEither old new f = HasFiles old f ⊎ HasFiles new f
