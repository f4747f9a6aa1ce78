-- The files of a repository that shares what did not change.
use Rattle.std.specs.{Prelude.{◌≡◌, ℕ, suc, List, [], ◌∷◌, ◌++◌, Option, Some, length, option_and_then, slice_get, slice_set}, FinMap.get, Result.result_ok}
use Rattle.svnpath.specs.Paths.{PathValue}
use Rattle.repo_api.specs.{Properties.PropertyList, States.{LockMap, RepoState}, declared.lock.Lock.Lock}
use Rattle.noderevs.specs.Held.{blocks_of}
use Rattle.shared_revisions.specs.{Growing.{HasOneMore, HasSame}, declared.held.Held.Held}
use Rattle.world.specs.{Whole.world_content, declared.world.World.World}
use Rattle.repostore.specs.Files.{Files}
use Rattle.fsfs_text.specs.Formats.{format_of}
use Rattle.fsfs_nodes.specs.{Current.current_of, Identity.uuid_of, declared.current.Current.Current}
use Rattle.filed_trees.specs.{StandsFor.{lock_of, locks_in, revision_bytes, revision_properties}, Tables.AreTabled, declared.table.Table.Table}
use Rattle.filed_repository.specs.{Histories.{IsHistory, held_history}, declared.filed_world.FiledWorld.FiledWorld}

abbrev pub filed_content : FiledWorld → RepoState
filed_content f = world_content f.world

-- the file of locks says these
pub record AreLocks (file : Option (List ℕ)) (locks : LockMap) : Type 0 where
  pub said : List (PathValue × Lock)
  pub read : locks_in file ≡ Some said
  pub each : (p : PathValue) → get locks p ≡ lock_of said p

-- files of what is held and of locks, in which the tables place the nodes
pub record AreFilesOf (h : Held) (locks : LockMap) (tables : List Table) (current : Current)
    (files : Files) : Type 0 where
  pub format : option_and_then format_of files.format ≡ Some current.format
  pub uuid : result_ok (uuid_of files.uuid) ≡ Some h.uuid
  pub current_is : result_ok (current_of current.format files.current) ≡ Some current
  pub youngest : suc current.youngest ≡ length files.revisions
  pub tabled : AreTabled (revision_bytes files) (blocks_of h.nodes) tables h.changes
  pub history : IsHistory (held_history h tables (revision_bytes files))
  pub properties : (n : ℕ) → slice_get h.properties n ≡ revision_properties files n
  pub locked : AreLocks files.locks locks

-- the files are those of the repository
abbrev pub IsOf : FiledWorld → Files → Type 0
IsOf f files = AreFilesOf f.world.held.value f.world.locks.value f.tables f.current files

-- one list of properties has come behind those that were held
pub record HasOneMoreList (before after : Held) : Type 0 where
  pub list : PropertyList
  pub lists : after.properties ≡ before.properties ++ list ∷ []

-- the list of properties of a revision has become another
pub record HasOtherList (before after : Held) (revision : ℕ) : Type 0 where
  pub list : PropertyList
  pub lists : after.properties ≡ slice_set before.properties revision list

-- one revision has come behind those of a world; its name and its locks are the same
pub record HasOneMoreRevision (before after : World) : Type 0 where
  pub more : HasOneMore before.held.value after.held.value
  pub uuid : after.held.value.uuid ≡ before.held.value.uuid
  pub locks : after.locks.value ≡ before.locks.value
  pub list : HasOneMoreList before.held.value after.held.value

-- the properties of a revision have become others; all else of a world is the same
pub record HasOtherProperties (before after : World) (revision : ℕ) : Type 0 where
  pub same : HasSame before.held.value after.held.value
  pub uuid : after.held.value.uuid ≡ before.held.value.uuid
  pub locks : after.locks.value ≡ before.locks.value
  pub other : HasOtherList before.held.value after.held.value revision
