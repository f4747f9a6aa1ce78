-- What the files of a repository have now, and what a stop leaves from one moment to another.
use Rattle.std.specs.Prelude.{◌↔◌, List}
use Rattle.repo_api.specs.{Accepted.Accepted, States.RepoState}
use Rattle.store_files.specs.{Folders.Folder, Stops.LeavesOnly, declared.store.Store.Ghosts}
use Rattle.repostore.specs.{Files.Files, Saving.Stands, declared.saves.Saves.Saves}
use Rattle.access.specs.{Beginnings.IsAmong, Calls.{AreCalls, CallLeaves}}
use Rattle.stored_repository.specs.Keeping.{HasRepository}

module _ {F : Type 0} (content : F → RepoState) (is_of : F → Files → Type 0) where
  -- the folder has the files of a repository that contains one of these
  pub record HasOneOf (cs : List RepoState) (folder : Folder) : Type 0 where
    pub state : RepoState
    pub among : IsAmong state cs
    pub has : HasRepository content is_of state folder

  module _ {S : Type 0} (s : Ghosts S) where
    -- what is read of an honest store has the files of one of these, and so has what a stop leaves now
    abbrev pub FilesStand : Saves S → List RepoState → Type 0
    FilesStand saves cs =
        s.is_honest saves.store → Stands s saves.store (λ folder. ∥ HasOneOf cs folder ∥₁)

    -- and so has what a stop leaves at any moment from the one to the other
    pub record FilesLeave (a b : Saves S) (cs : List RepoState) : Type 0 where
      pub honest : s.is_honest a.store ↔ s.is_honest b.store
      pub run : s.is_honest a.store
          → ∥ LeavesOnly s a.store b.store (λ folder. ∥ HasOneOf cs folder ∥₁) ∥₁
      pub now : FilesStand b cs

    -- A call by a repository with the saves of its files, which asks for these changes: it saves the first of them that the
    -- rules accept, and a stop at any moment of it leaves an honest store with the files of the repository before them,
    -- between them or behind them. Where changes have come to a halt, nothing is done.
    abbrev pub LeavesByCall : List Accepted → F × Saves S → F × Saves S → Type 0
    LeavesByCall = CallLeaves (λ k. content k.0) (λ k. k.1) (λ saves. saves.is_halted) FilesLeave

    -- one call after another, each by the changes for which it asks, and what there is behind it
    abbrev pub MakesCalls : F × Saves S → List (List Accepted × (F × Saves S)) → Type 0
    MakesCalls = AreCalls (λ k. content k.0) (λ k. k.1) (λ saves. saves.is_halted) FilesLeave
