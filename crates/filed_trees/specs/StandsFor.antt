-- The state of a repository that its files stand for.
use Rattle.std.specs.{Prelude.{◌≡◌, ℕ, suc, List, [], ◌∷◌, map, Option, Some, None, option_and_then, length, slice_get, if◌then◌else◌}, FinMap.{get, entries}}
use Rattle.std.specs.Result.{result_ok}
use Rattle.svnpath.specs.Paths.{PathValue, same_path}
use Rattle.repo_api.specs.{Properties.PropertyList, States.{RepoState, Revision}, declared.lock.Lock.Lock}
use Rattle.fsfs_text.specs.Formats.{format_of}
use Rattle.fsfs_nodes.specs.{Current.current_of, Identity.uuid_of, Locks.locks_of, Properties.properties_of, declared.current.Current.Current}
use Rattle.repostore.specs.Files.{Files}
use Rattle.filed_trees.specs.{Pieces.RevisionBytes, Changes.changes_in, Trees.tree_in}

-- the files of the revisions, without those of their properties
abbrev pub revision_bytes : Files → RevisionBytes
revision_bytes files = map (λ r. r.0) files.revisions

-- the properties of a revision
unfoldable pub revision_properties : Files → ℕ → Option PropertyList
revision_properties files n =
    option_and_then (λ r. result_ok (properties_of r.1)) (slice_get files.revisions n)

-- there are no locks where their file is missing
abbrev pub locks_in : Option (List ℕ) → Option (List (PathValue × Lock))
locks_in None = Some []
locks_in (Some bytes) = result_ok (locks_of bytes)

abbrev pub lock_of : List (PathValue × Lock) → PathValue → Option Lock
lock_of [] p = None
lock_of (l ∷ ls) p = if same_path l.0 p then Some l.1 else lock_of ls p

-- the files of a revision say its tree, path by path, and its changes
pub record IsRevision (bytes : RevisionBytes) (n : ℕ) (revision : Revision) : Type 0 where
  pub tree : (p : PathValue) → get revision.tree p ≡ tree_in bytes n p
  pub changes : changes_in bytes n ≡ Some (entries revision.changes)

pub record StandsFor (files : Files) (state : RepoState) : Type 0 where
  pub uuid : result_ok (uuid_of files.uuid) ≡ Some state.uuid
  pub current : Current
  pub format : option_and_then format_of files.format ≡ Some current.format
  pub says : result_ok (current_of current.format files.current) ≡ Some current
  pub youngest : suc current.youngest ≡ length files.revisions
  pub count : length state.revisions ≡ length files.revisions
  pub revisions : (n : ℕ) (revision : Revision) → slice_get state.revisions n ≡ Some revision
      → IsRevision (revision_bytes files) n revision
  pub properties : (n : ℕ) → slice_get state.properties n ≡ revision_properties files n
  pub locks : List (PathValue × Lock)
  pub locked : locks_in files.locks ≡ Some locks
  pub each_lock : (p : PathValue) → get state.locks p ≡ lock_of locks p
