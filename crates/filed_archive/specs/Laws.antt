-- What an archive of files stands for goes on from save to save.
use Rattle.std.proofs.Common.{◌≡◌, false, List, [], ◌∷◌, ◌++◌}
use Rattle.repo_api.specs.States.{RepoState}
use Rattle.repo_api.specs.declared.repository.Repository as Repository
use Rattle.store_files.specs.{Folders.Folder, declared.store.Store.Ghosts}
use Rattle.access.specs.Beginnings.{AreAmong}
use Rattle.stored_repository.specs.declared.filed.Filed as Filed
use Rattle.stored_repository.proofs.Leaving as leaving
use Rattle.filed_archive.specs.{Writing.{Leaves, stands_of}, declared.filed_archive.FiledArchive.FiledArchive}

module _ {F S T : Type 0} {f : Filed.Ghosts F T} {r : Repository.Ghosts F T} {s : Ghosts S} where
  pub saves : (a : FiledArchive F S T f r s) → a.saves.is_halted ≡ false → stands_of a (r.content a.repository ∷ [])
  saves a running = leaving.stand_now r.content f.is_of s a.saves a.repository a.kept running

  pub stays : ((store : S) (folder : Folder) → s.is_honest store → s.left_since store (s.moment store) folder → s.may_leave store folder)
      → (a : FiledArchive F S T f r s) (cs : List RepoState) → stands_of a cs → Leaves a a cs
  stays only_now a cs stands = leaving.stays r.content f.is_of s only_now a.saves cs stands

  pub among : (a b : FiledArchive F S T f r s) (cs ds : List RepoState) → AreAmong cs ds → Leaves a b cs → Leaves a b ds
  among a b cs ds are leaves = leaving.among r.content f.is_of s a.saves b.saves cs ds are leaves

  pub joins : (a b c : FiledArchive F S T f r s) (cs ds : List RepoState) → Leaves a b cs → Leaves b c ds → Leaves a c (cs ++ ds)
  joins a b c cs ds one then = leaving.joins r.content f.is_of s a.saves b.saves c.saves cs ds one then

  pub rests : (a b : FiledArchive F S T f r s) (cs : List RepoState) → Leaves a b cs → stands_of b cs
  rests a b cs leaves = leaves.now
