-- What is found in a folder, how a hub begins over it, and what its files are once changes have come to a halt.
use Rattle.std.specs.Prelude.{◌≡◌, ℕ, [], true, false, None, Some}
use Rattle.repo_api.specs.{Accepted.{Accepted, changed}, States.RepoState}
use Rattle.store_files.specs.{Folders.Folder, declared.store.Store.Ghosts}
use Rattle.repostore.specs.Saving.{Stands}
use Rattle.hub.specs.State.{HubState, hub_at}
use Rattle.machine.specs.Settings.{Settings}
use Rattle.stored_repository.specs.{Keeping.{HasEitherRepository, HasRepository, StandsFor}, Stored.stored_at}
use Rattle.filed_trees.specs.StandsFor as files
use Rattle.filed_repository.specs.Files.{IsOf, filed_content}

-- this is what is found in the folder: its files stand for it, and if they are those of a
-- repository, it is what that one contains
pub record IsFoundIn (was : Folder) (content : RepoState) : Type 0 where
  pub stands : StandsFor files.StandsFor content was
  pub same : (c : RepoState) → HasRepository filed_content IsOf c was → content ≡ c

-- a hub that begins: it contains this, and has no sessions; changes are made, none is pending, and so
-- many failures of the store are counted
abbrev pub opened_hub : Settings → RepoState → ℕ → HubState
opened_hub settings content failures = hub_at settings (stored_at content false failures None) [] 0

module _ {S : Type 0} (s : Ghosts S) (store : S) (hub : HubState) where
  -- changes came to a halt while this one was being saved: what is read has the files of what the
  -- hub's repository contains, or those behind the change, and so has what a stop leaves now
  pub record StandsAtHalt : Type 0 where
    pub change : Accepted
    pub is_pending : hub.pending ≡ Some change
    pub stands : Stands s store (λ f. ∥ HasEitherRepository filed_content IsOf hub.content
        (changed hub.content change) f ∥₁)

  -- so it is of a store that is honest, once they have
  abbrev pub HaltLeaves : Type 0
  HaltLeaves = s.is_honest store → hub.halted ≡ true → StandsAtHalt
