-- What the files of a repository stand for, as they are read and behind a stop.
use Rattle.std.specs.Prelude.{◌≡◌, ◌⊎◌, true, false, Option, Some}
use Rattle.repo_api.specs.{Accepted.{Accepted, changed}, States.RepoState}
use Rattle.store_files.specs.{Folders.Folder, declared.store.Store.Ghosts}
use Rattle.repostore.specs.{Files.{Files, HasFiles}, Saving.{IsSaved, Stands}, declared.saves.Saves.Saves}

-- the store has these files, also after a stop, and the repository is that of them
pub record IsKept {S F : Type 0} (s : Ghosts S) (is_of : F → Files → Type 0) (saves : Saves S)
    (repository : F) : Type 0 where
  pub files : Files
  pub saved : IsSaved s saves files
  pub of_these : is_of repository files

-- while changes are saved, an honest store has the files of the repository
abbrev pub Keeps : {S F : Type 0} → Ghosts S → (F → Files → Type 0) → Saves S → F → Type 0
Keeps s is_of saves repository =
    s.is_honest saves.store → saves.is_halted ≡ false → IsKept s is_of saves repository

-- the folder's files stand for this state
abbrev pub StandsFor : (Files → RepoState → Type 0) → RepoState → Folder → Type 0
StandsFor stands_for c f = (files : Files) × HasFiles files f × stands_for files c

module _ {F : Type 0} (content : F → RepoState) (is_of : F → Files → Type 0) where
  -- the folder has the files of a repository that contains this
  pub record HasRepository (c : RepoState) (f : Folder) : Type 0 where
    pub repository : F
    pub files : Files
    pub has : HasFiles files f
    pub of_these : is_of repository files
    pub contains : content repository ≡ c

  -- it has those of the one or the other
  abbrev pub HasEitherRepository : RepoState → RepoState → Folder → Type 0
  HasEitherRepository before after f = HasRepository before f ⊎ HasRepository after f

  module _ {S : Type 0} (s : Ghosts S) where
    -- once changes have come to a halt, what is read of an honest store has the files of the repository before the
    -- change that was being saved, or behind it, and so has what a stop leaves now
    pub record IsAtHalt (saves : Saves S) (repository : F) (pending : Option Accepted) : Type 0 where
      pub change : Accepted
      pub is_pending : pending ≡ Some change
      pub stands : Stands s saves.store (λ f. ∥ HasEitherRepository (content repository)
          (changed (content repository) change) f ∥₁)

    abbrev pub HaltKeeps : Saves S → F → Option Accepted → Type 0
    HaltKeeps saves repository pending =
        s.is_honest saves.store → saves.is_halted ≡ true → IsAtHalt saves repository pending
