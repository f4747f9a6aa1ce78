-- The files of a new repository.
use Rattle.std.specs.{Prelude.{◌≡◌, ℕ, [], ◌∷◌, Option, None, Some}, Result.result_ok}
use Rattle.repostore.specs.{Current.count_in, Files.Files}
use Rattle.fsfs_text.specs.{Formats.format_of, declared.format.Format.Format, declared.format.Format.TheVariants.{Two, Three}}
use Rattle.fsfs_nodes.specs.{Current.current_of, Identity.uuid_of, declared.current.Current.Current, declared.current.NextIds.NextIds}
use Rattle.filed_repository.specs.declared.creating.NewFiles.{NewFiles}

-- without locks
abbrev pub new_files : NewFiles → Files
new_files n = record {
  format = Some n.format.items;
  uuid = n.uuid.items;
  current = n.current.items;
  revisions = (n.revision.items, n.properties.items) ∷ [];
  locks = None;
}

-- the ids that come next, where they are counted over all revisions
abbrev pub ids_in : Format → Option NextIds → Option NextIds
ids_in Two ids = ids
ids_in (Three layout) ids = None

-- they say the format and the name of the repository, that revision 0 is its youngest, and in format 2 the ids that
-- come next
pub record SayNew (uuid : ℕ) (current : Current) (files : NewFiles) : Type 0 where
  pub format : format_of files.format.items ≡ Some current.format
  pub uuid_is : result_ok (uuid_of files.uuid.items) ≡ Some uuid
  pub current_is : result_ok (current_of current.format files.current.items) ≡ Some current
  pub youngest : current.youngest ≡ 0
  pub count : count_in files.current.items ≡ Some 1
