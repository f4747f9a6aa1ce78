use Rattle.stored_repository.specs.Stored.{releases_of}
use Rattle.stored_repository.proofs.Leaving.{call_still}
use Rattle.stored_repository.proofs.stored.StoredRepository.release_handed.Goals as goal

pub returns-in-None-clause-stop : goal.returns-in-None-clause-stop
returns-in-None-clause-stop g c =
    call_still g.F.Repository.content g.F.Filed.is_of g.S.Store (λ store folder. g.met.S.Store.only_now store folder)
    c.args.self.now.saves c.args.self.now.repository (releases_of c.args.handed) c.args.self.now.kept
