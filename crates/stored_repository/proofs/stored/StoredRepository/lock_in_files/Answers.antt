use Rattle.std.proofs.Common.{[], ◌∷◌}
use Rattle.repo_api.specs.Accepted.Accepted.{Locks}
use Rattle.stored_repository.proofs.Leaving.{call_still}
use Rattle.stored_repository.proofs.stored.StoredRepository.lock_in_files.Goals as goal

pub returns-in-Err-clause-stop : goal.returns-in-Err-clause-stop
returns-in-Err-clause-stop g c =
    call_still g.F.Repository.content g.F.Filed.is_of g.S.Store (λ store folder. g.met.S.Store.only_now store folder)
    c.args.self.now.saves c.args.self.now.repository (Locks c.args.ask ∷ []) c.args.self.now.kept
