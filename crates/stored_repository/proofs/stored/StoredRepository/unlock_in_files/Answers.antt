use Rattle.std.proofs.Common.{[], ◌∷◌}
use Rattle.repo_api.specs.Accepted.Accepted.{Unlocks}
use Rattle.stored_repository.proofs.Leaving.{call_still}
use Rattle.stored_repository.proofs.stored.StoredRepository.unlock_in_files.Goals as goal

pub returns-in-Err-clause-stop : goal.returns-in-Err-clause-stop
returns-in-Err-clause-stop g c =
    call_still g.F.Repository.content g.F.Filed.is_of g.S.Store (λ store folder. g.met.S.Store.only_now store folder)
    c.args.self.now.saves c.args.self.now.repository (Unlocks c.args.ask.now ∷ []) c.args.self.now.kept

pub returns-in_default-clause-stop : goal.returns-in_default-clause-stop
returns-in_default-clause-stop g c =
    call_still g.F.Repository.content g.F.Filed.is_of g.S.Store (λ store folder. g.met.S.Store.only_now store folder)
    c.args.self.now.saves c.args.self.now.repository (Unlocks c.args.ask.now ∷ []) c.args.self.now.kept
