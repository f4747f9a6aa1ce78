-- How a repository that can be written to files answers a change.
use Rattle.std.specs.{Prelude.{◌≡◌, ◌+◌, ◌<◌, ℕ, length, List, Some, Vec}, declared.alloc.Global.Global}
use Rattle.repo_api.specs.States.{RepoState}
use Rattle.repostore.specs.{Current.count_in, Files.{Files, with_locks, with_properties, with_revision}}
use Rattle.stored_repository.specs.declared.filed.NewRevision.{NewRevision}

module _ {F : Type 0} (is_of : F → Files → Type 0) where
  -- the files of the next repository are those of the one before it, with this revision, of which
  -- `current` says that it is one more
  abbrev pub WritesRevision : F → NewRevision → F → Type 0
  WritesRevision before new next =
      (files : Files) → is_of before files
      → is_of next (with_revision files (new.revision.items, new.properties.items)
      new.current.items)
      × (count_in new.current.items ≡ Some (length files.revisions + 1))

  -- with these properties of a revision that is there
  abbrev pub WritesProperties : F → ℕ → List ℕ → F → Type 0
  WritesProperties before revision file next =
      (files : Files) → is_of before files
      → is_of next (with_properties files revision file) × (revision < length files.revisions)

  -- with this file of locks
  abbrev pub WritesLocks : F → List ℕ → F → Type 0
  WritesLocks before file next =
      (files : Files) → is_of before files → is_of next (with_locks files file)

  -- and it contains this
  abbrev pub MakesLocks : (F → RepoState) → F → RepoState → F × Vec ℕ Global → Type 0
  MakesLocks content before c made =
      (content made.0 ≡ c) × WritesLocks before made.1.items made.0
