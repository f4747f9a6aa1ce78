use Rattle.std.proofs.{Common.{subst, sym}, Math.Logic.{∥∥₁_elim, ∥∥₁_map, ∥∥₁_prop}}
use Rattle.repo_api.specs.States.{RepoState}
use Rattle.access.specs.Beginnings.{IsAmong}
use Rattle.stored_repository.proofs.Alone.{alone}
use Rattle.stored_repository.proofs.laws.a_stop_is_opened_as_one_of_these.Goals as goal

pub returns : goal.returns
returns g c = λ old new cs leaves honest found f left stands.
    let i = g.F.Filed in
    ∥∥₁_elim (leaves.run honest) ∥∥₁_prop (λ run.
    ∥∥₁_map (run.each f left) (λ has.
    subst (λ (x : RepoState). IsAmong x cs)
    (sym (alone g.F.Repository.content i.is_of i.stands_for g.met.F.Filed.is_state g.met.F.Filed.one_state has.state found f has.has stands)) has.among))
