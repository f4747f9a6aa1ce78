use Rattle.std.proofs.Common.{◌≡◌, [], ◌∷◌, true, rules, subst, sym}
use Rattle.repo_api.specs.{Accepted.Accepted.Releases, Locking.{releases, without_released}}
use Rattle.access.specs.{Points.Point, declared.access.Released.Released}
use Rattle.stored_repository.specs.Stored.{point_in, ReleasesBy}
use Rattle.stored_repository.proofs.{Changes.release_saved, Leaving.call_still}
use Rattle.stored_repository.proofs.stored.StoredRepository.release.Goals as goal

pub returns-then-not-releases-clause-stop : goal.returns-then-not-releases-clause-stop
returns-then-not-releases-clause-stop g c =
    call_still g.F.Repository.content g.F.Filed.is_of g.S.Store (λ store folder. g.met.S.Store.only_now store folder)
    c.args.self.now.saves c.args.self.now.repository (Releases c.args.handed.user c.args.handed.tokens ∷ []) c.args.self.now.kept

pub returns-in-Err-clause-stop : goal.returns-in-Err-clause-stop
returns-in-Err-clause-stop g c =
    call_still g.F.Repository.content g.F.Filed.is_of g.S.Store (λ store folder. g.met.S.Store.only_now store folder)
    c.args.self.now.saves c.args.self.now.repository (Releases c.args.handed.user c.args.handed.tokens ∷ []) c.args.self.now.kept

pub returns-in-Ok-clause-point : goal.returns-in-Ok-clause-point
returns-in-Ok-clause-point g c =
    let at : Point = point_in g.F.Repository.content g.S.Store.failed g.F.Repository.txn_state c.args.self.now.repository c.args.self.now.saves c.args.self.now.pending in
    let end = c.settle_locks.new.self in
    let q : Point = point_in g.F.Repository.content g.S.Store.failed g.F.Repository.txn_state end.repository end.saves end.pending in
    let wants : releases c.args.handed.user c.args.handed.tokens (g.F.Repository.content c.args.self.now.repository).locks ≡ true = search rules in
    let is : g.F.Repository.content c.in-Ok.next ≡ without_released (g.F.Repository.content c.args.self.now.repository) c.args.handed.user c.args.handed.tokens = search rules in
    subst (λ (r : Released). ReleasesBy c.args.handed.user c.args.handed.tokens at r q) (sym c.released-in-Ok.ensures)
    (release_saved c.args.handed.user c.args.handed.tokens at (g.F.Repository.content c.in-Ok.next) c.settle_locks.result q wants is c.settle_locks.ensures.point)
